-- What passes made, as it stands in the life that came from them.
use Rattle.std.specs.Prelude.{◌≡◌, ◌≢◌, ℕ, ◌<◌, ◌≤◌, Bool, true, false, List, length, map, take, drop, slice_get, Some, All, Contains}
use Rattle.std.specs.List.Sorted.{IsStrictlyIncreasing}
use Rattle.plant_book.specs.declared.book.Entry.{Entry}
use Rattle.plant_book.specs.Book.{BookRecord}
use Rattle.plant_book.specs.Answered.{with_entries}
use Rattle.plant_book.specs.Part.{PartRecord}
use Rattle.plant_book.specs.Life.{Life, joined_book}
use Rattle.plant_ledger.specs.declared.plant.Goal.{Goal}
use Rattle.ledger_desk.specs.Plain.{IsGoalOf}
use Rattle.plant_desk.specs.Deeds.{Placed}
use Rattle.plant_desk.specs.Passes.{DeskRecord, PassRecord, first_place, entries}
use Rattle.plant_desk.specs.DeskOf.{MayTell, books_of, WasFull, Ended, WasFullLife}

-- the places of a pass's entries, and the entries without their places
abbrev pub places : PassRecord → List ℕ
places pass = map (λ placed. placed.place) (entries pass)

abbrev pub made : PassRecord → List Entry
made pass = map (λ placed. placed.entry) (entries pass)

-- the entries of a life behind those that the plant came with
abbrev pub new_entries : DeskRecord → BookRecord → List Entry
new_entries desk book = drop (first_place desk) book.entries

-- the joined book of a life, with its first so many entries alone
abbrev pub first_joined : Life → ℕ → BookRecord
first_joined life place = with_entries (joined_book life) (take place (joined_book life).entries)

-- an entry of a pass stands in the book at its place
abbrev pub StandsAt : BookRecord → Placed → Type 0
StandsAt book placed = slice_get book.entries placed.place ≡ Some placed.entry

-- just one of the passes made the entry at this place
pub record MadeOnce (passes : List PassRecord) (place : ℕ) : Type 0 where
  pub nth : ℕ
  pub pass : PassRecord
  pub there : slice_get passes nth ≡ Some pass
  pub made : Contains (places pass) place
  pub only : (other : ℕ) (one : PassRecord) → slice_get passes other ≡ Some one → Contains (places one) place
      → other ≡ nth

-- the goal is that of the first so many entries of the life
pub record TellsOf (life : Life) (place inverter : ℕ) (goal : Goal) : Type 0 where
  pub within : place ≤ length (joined_book life).entries
  pub told : IsGoalOf (first_joined life place) inverter goal

-- the book is one of the life's, and has its room of calls
pub record IsFullBookOf (life : Life) (book : PartRecord) : Type 0 where
  pub there : Contains (books_of life) book
  pub full : length book.entries ≡ book.site.room

-- What a pass made stands in the life: its entries are those of the joined book at their places, which rise from the
-- first new one on; each goal that it may have told is one of a beginning of that book; a book that it saw full is one
-- of the life's; each book that its rolls ended is one of those that ended; and a life that it found full still has
-- those calls.
pub record Stands (desk : DeskRecord) (life : Life) (pass : PassRecord) : Type 0 where
  pub entries : All (StandsAt (joined_book life)) (entries pass)
  pub fresh : All (λ place. first_place desk ≤ place) (places pass)
  pub rise : IsStrictlyIncreasing (places pass)
  pub goals : (count place inverter : ℕ) (goal : Goal) → MayTell pass count place inverter goal
      → TellsOf life place inverter goal
  pub full : (was : WasFull pass) → IsFullBookOf life was.book
  pub rolls : (number : ℕ) (book : PartRecord) → Ended pass number book → Contains life.ended book
  pub full_life : (calls : ℕ) → WasFullLife pass calls → calls ≤ length (joined_book life).entries

-- A life that passes made: it is of the plant's site and start, its joined book begins with the plant's entries, each
-- place behind them is of just one pass, and what each pass made stands in it.
pub record IsMadeUp (desk : DeskRecord) (passes : List PassRecord) (life : Life) : Type 0 where
  pub site : life.last.site ≡ desk.book.site
  pub start : life.last.start ≡ desk.book.start
  pub begins : take (first_place desk) (joined_book life).entries ≡ desk.book.entries
  pub once : (place : ℕ) → first_place desk ≤ place → place < length (joined_book life).entries
      → MadeOnce passes place
  pub each : All (Stands desk life) passes

-- a test that tells the entries of a pass from those of the others
pub record TellsApart (test : Entry → Bool) (pass : PassRecord) (passes : List PassRecord) : Type 0 where
  pub own : All (λ entry. test entry ≡ true) (made pass)
  pub others : (other : PassRecord) → Contains passes other → other.number ≢ pass.number
      → All (λ entry. test entry ≡ false) (made other)
