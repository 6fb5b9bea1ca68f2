-- The text of books and lives.
use Rattle.std.specs.Prelude.{ℕ, List, [], ◌∷◌, ◌++◌, codes}
use Rattle.std.specs.List.{flat_map}
use Rattle.plant_book.specs.declared.book.Entry.{Entry}
use Rattle.plant_book.specs.declared.site.Unit as unit
use Rattle.plant_book.specs.Site.{SiteRecord}
use Rattle.plant_book.specs.Book.{BookRecord}
use Rattle.script_text.specs.declared.line.Line.{Line}
use Rattle.script_text.specs.declared.line.Line.TheVariants as lines
use Rattle.script_text.specs.Words.{Word, Text, line_text}
use Rattle.script_text.specs.Grammar.{Statement, Begin, call_words, reply_words, line_words, statement_words}
use Rattle.script_text.specs.Script.{site_statement, inverter_statement}

abbrev pub statement_text : Statement → List ℕ
statement_text statement = line_text (statement_words statement)

abbrev pub inverters_text : List unit.Unit → List ℕ
inverters_text units = flat_map (λ unit. statement_text (inverter_statement unit)) units

-- the head of a book: its site, its inverters and its begin
abbrev pub head_text : SiteRecord → ℕ → List ℕ
head_text site start =
    statement_text (site_statement site.cap site.rules site.policy site.room)
    ++ inverters_text site.units ++ statement_text (Begin start)

-- a line with an equals sign and its reply
abbrev pub replied_text : List Word → List Word → List ℕ
replied_text words reply = line_text (words ++ Text (codes "=") ∷ reply)

abbrev pub entry_text : Entry → List ℕ
entry_text entry = replied_text (call_words entry.call) (reply_words entry.reply)

abbrev pub restart_text : ℕ → List ℕ
restart_text at = replied_text (line_words (lines.Restart at)) (Text (codes "begun") ∷ [])

abbrev pub roll_text : List ℕ
roll_text = replied_text (line_words lines.Roll) (Text (codes "rolled") ∷ [])

-- the text of a book that stands alone
abbrev pub book_text : BookRecord → List ℕ
book_text book = head_text book.site book.start ++ flat_map entry_text book.entries

-- what was done of a script's lines
pub data Deed : Type 0 where
  Entered : (entry : Entry) → Deed
  Begun : (at : ℕ) → Deed
  Rolled : Deed

-- the line of a script by which it was done
abbrev pub deed_line : Deed → Line
deed_line (Entered entry) = lines.One entry.call
deed_line (Begun at) = lines.Restart at
deed_line Rolled = lines.Roll

abbrev pub deed_text : Deed → List ℕ
deed_text (Entered entry) = entry_text entry
deed_text (Begun at) = restart_text at
deed_text Rolled = roll_text

-- the text of lives, by all that was done in them
abbrev pub lives_text : SiteRecord → ℕ → List Deed → List ℕ
lives_text site start deeds = head_text site start ++ flat_map deed_text deeds
