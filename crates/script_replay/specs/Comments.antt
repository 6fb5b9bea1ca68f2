-- Comments behind the text of a book.
use Rattle.std.specs.Prelude.{ℕ, List, All}
use Rattle.std.specs.Str.Lines.{lines}
use Rattle.script_text.specs.Grammar.{IsComment}

-- each row of these bytes is a comment
abbrev pub AreComments : List ℕ → Type 0
AreComments bytes = All IsComment (lines bytes)
