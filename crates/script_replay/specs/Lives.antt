-- The text of a life that is kept in several books, and texts with comments put in.
use Rattle.std.specs.Prelude.{◌≡◌, ℕ, List, [], ◌∷◌, ◌++◌}
use Rattle.std.specs.List.{flat_map, AllByRecursion}
use Rattle.std.specs.Str.Iter.{LacksByte}
use Rattle.plant_book.specs.Part.{PartRecord}
use Rattle.plant_book.specs.Life.{Life}
use Rattle.script_text.specs.Grammar.{IsComment}
use Rattle.script_text.specs.Text.{head_text, entry_text, roll_text}
use Rattle.script_replay.specs.Comments.{AreComments}

-- the text of a book that ended, behind the head of its life
abbrev pub ended_text : PartRecord → List ℕ
ended_text part = flat_map entry_text part.entries ++ roll_text

-- the text of a life: its head, each book that ended with its roll, and the last book
abbrev pub life_text : Life → List ℕ
life_text life = head_text life.last.site life.last.start
    ++ flat_map ended_text life.ended ++ flat_map entry_text life.last.entries

-- a line of a text, or a comment line that was put in, without its line feed
pub data Row : Type 0 where
  Told : (line : List ℕ) → Row
  PutIn : (line : List ℕ) → Row

abbrev pub IsRow : Row → Type 0
IsRow (Told line) = LacksByte 10 line
IsRow (PutIn line) = LacksByte 10 line × IsComment line

-- the bytes of a row, and those of them that are the text's
abbrev pub row_bytes : Row → List ℕ
row_bytes (Told line) = line ++ 10 ∷ []
row_bytes (PutIn line) = line ++ 10 ∷ []

abbrev pub told_bytes : Row → List ℕ
told_bytes (Told line) = line ++ 10 ∷ []
told_bytes (PutIn line) = []

-- The bytes are the text with comment lines put in before its lines, between them or behind them. Behind them all
-- the last comment may have no line feed.
pub record HasComments (text bytes : List ℕ) : Type 0 where
  pub rows : List Row
  pub behind : List ℕ
  pub each : AllByRecursion IsRow rows
  pub comments : AreComments behind
  pub text_is : text ≡ flat_map told_bytes rows
  pub bytes_are : bytes ≡ flat_map row_bytes rows ++ behind
