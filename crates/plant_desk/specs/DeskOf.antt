-- The desk of one pass, and its tests. They speak of the deeds that the pass has seen.
use Rattle.std.specs.Prelude.{◌≡◌, ℕ, ◌+◌, ◌<◌, ◌≤◌, List, [], ◌∷◌, ◌++◌, length, map, take, drop, All, Contains}
use Rattle.plant_book.specs.declared.carry.TheConstants.{CALLS_MAX}
use Rattle.plant_book.specs.Site.{inverters}
use Rattle.plant_book.specs.Book.{BookRecord}
use Rattle.plant_book.specs.Answered.{with_entries}
use Rattle.plant_book.specs.Part.{PartRecord}
use Rattle.plant_book.specs.Life.{Life}
use Rattle.plant_ledger.specs.declared.plant.Goal.{Goal}
use Rattle.ledger_desk.specs.Desk.{DeskState, DeskTests}
use Rattle.ledger_desk.specs.Plain.{IsGoalOf}
use Rattle.plant_desk.specs.declared.deed.Deed.{Deed}
use Rattle.plant_desk.specs.declared.deed.Deed.TheVariants.{Rolled}
use Rattle.plant_desk.specs.Deeds as deeds
use Rattle.plant_desk.specs.Deeds.{life_of, rolls_by}
use Rattle.plant_desk.specs.Passes.{DeskRecord, PassRecord, seen_book, first_place, entries, rolls}

-- how many calls the joined book has that the pass has seen
abbrev pub front : PassRecord → ℕ
front pass = deeds.front pass.desk.book pass.seen

-- what the desk means
abbrev pub state_of : PassRecord → DeskState
state_of pass = record {
  made = map (λ placed. placed.entry) (entries pass);
  front = front pass;
  inverters = inverters pass.desk.book.site;
  rolls = rolls pass;
}

-- the joined book that the pass has seen, with its first so many entries alone
abbrev pub first_entries : PassRecord → ℕ → BookRecord
first_entries pass place = with_entries (seen_book pass) (take place (seen_book pass).entries)

-- The goal is that of the first so many entries of the joined book that the pass has seen. These hold all that the
-- plant came with and the first so many that the pass made, and none that it made later.
pub record MayTell (pass : PassRecord) (made place inverter : ℕ) (goal : Goal) : Type 0 where
  pub counted : made ≤ length (entries pass)
  pub begun : first_place pass.desk ≤ place
  pub within : place ≤ front pass
  pub held : All (λ placed. placed.place < place) (take made (entries pass))
  pub none_later : All (λ placed. place ≤ placed.place) (drop made (entries pass))
  pub told : IsGoalOf (first_entries pass place) inverter goal

-- the books of a life: those that ended, and the last one
abbrev pub books_of : Life → List PartRecord
books_of life = life.ended ++ life.last ∷ []

-- a book of the life that the pass has seen has its room of calls
pub record WasFull (pass : PassRecord) : Type 0 where
  pub book : PartRecord
  pub there : Contains (books_of (life_of pass.desk.book pass.seen)) book
  pub full : pass.desk.book.site.room ≤ length book.entries

-- The pass's roll of this number, counted from 1, ended this book: the last one of the life right before that roll.
pub record Ended (pass : PassRecord) (number : ℕ) (book : PartRecord) : Type 0 where
  pub before : List Deed
  pub behind : List Deed
  pub seen : pass.seen ≡ before ++ Rolled pass.number ∷ behind
  pub counted : number ≡ length (rolls_by pass.number (first_place pass.desk) before) + 1
  pub it : book ≡ (life_of pass.desk.book before).last

-- the life had so many calls, and with the room they are more than it may have
abbrev pub WasFullLife : PassRecord → (calls : ℕ) → Type 0
WasFullLife pass calls = (calls ≤ front pass) × (CALLS_MAX < calls + pass.desk.book.site.room)

-- the desk's tests
abbrev pub tests_of : PassRecord → DeskTests
tests_of pass = record {
  may_tell = MayTell pass;
  was_full = WasFull pass;
  ended = Ended pass;
  was_full_life = WasFullLife pass;
}

-- what no call changes: of which desk it is, and which of its passes
abbrev pub identity : PassRecord → DeskRecord × ℕ
identity pass = (pass.desk, pass.number)
