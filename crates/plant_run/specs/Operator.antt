-- What the console of an operator did, as it stands in a life.
use Rattle.std.specs.Prelude.{◌≡◌, ℕ, suc, ◌+◌, ◌≤◌, Bool, true, false, List, [], ◌∷◌, filter, length, take, slice_get, Option, Some}
use Rattle.plant_book.specs.declared.call.Call.{Call}
use Rattle.plant_book.specs.declared.call.Call.TheVariants as call
use Rattle.plant_book.specs.declared.book.Entry.{Entry}
use Rattle.plant_book.specs.Site.{inverters}
use Rattle.plant_book.specs.Book.{BookRecord}
use Rattle.plant_book.specs.Part.{PartRecord}
use Rattle.plant_book.specs.Life.{Life, joined_book}
use Rattle.plant_ledger.specs.declared.plant.Goal.{Goal}
use Rattle.ledger_desk.specs.Desk.{DeskState, IsFullAt}
use Rattle.ledger_desk.specs.Plain.{IsGoalOf}
use Rattle.operator_console.specs.declared.session.ConsoleEnd.{ConsoleEnd}
use Rattle.operator_console.specs.Deeds.{Tests}
use Rattle.operator_console.specs.Transcript.{IsTranscript}
use Rattle.plant_run.specs.Works.{first_of, HasFullBook}

-- whether a call is one that an operator's console makes
abbrev pub is_operators : Call → Bool
is_operators (call.Want at inverter mw) = true
is_operators (call.Cap at mw) = true
is_operators (call.Tick at) = true
is_operators (call.Stop at) = true
is_operators made = false

-- the operator's entries, in order
abbrev pub operators : List Entry → List Entry
operators entries = filter (λ entry. is_operators entry.call) entries

-- A goal that an operator was told after so many of their entries: that of the book's first so many entries, which have
-- so many of the operator's.
pub record IsGoalShown (book : BookRecord) (own place inverter : ℕ) (goal : Goal) : Type 0 where
  pub within : place ≤ length book.entries
  pub counted : length (operators (take place book.entries)) ≡ own
  pub told : IsGoalOf (first_of book place) inverter goal

-- the book of this number that ended in the life, counted from 1
abbrev pub IsEnded : Life → (number : ℕ) → PartRecord → Type 0
IsEnded life number book = (place : ℕ) × (number ≡ suc place) × (slice_get life.ended place ≡ Some book)

-- the life had so many calls at some time, and with one more book it would have more than a life may
abbrev pub HadFullLife : Life → (calls : ℕ) → Type 0
HadFullLife life calls = (calls ≤ length (joined_book life).entries) × IsFullAt calls life.last.site.room

-- what the clock and the life tell a console
abbrev pub tests_in : (may_give : ℕ → Bool) → Life → Tests
tests_in may_give life = record {
  may_give = may_give;
  may_tell = IsGoalShown (joined_book life);
  ended = IsEnded life;
  full_life = HadFullLife life;
}

-- where books end, one after another, behind so many entries
abbrev pub ends_behind : (before : ℕ) → List PartRecord → List ℕ
ends_behind before [] = []
ends_behind before (part ∷ later) =
    (before + length part.entries) ∷ ends_behind (before + length part.entries) later

-- what the operator has of a life that is over: their own entries, and the ends of all books but the last
pub record IsOperators (life : Life) (desk : DeskState) : Type 0 where
  pub made : desk.made ≡ operators (joined_book life).entries
  pub front : desk.front ≤ length (joined_book life).entries
  pub inverters : desk.inverters ≡ inverters life.last.site
  pub rolls : desk.rolls ≡ ends_behind 0 life.ended

-- and what of a life that begins: nothing
abbrev pub nothing_made : (inverters : ℕ) → DeskState
nothing_made inverters = record { made = []; front = 0; inverters = inverters; rolls = [] }

-- A console followed an operator's orders over a life, and ended so. The life's Wants, Caps, Ticks and Stops are those
-- of its transcript, and each roll of the life is one of it.
pub record IsConsole (may_give : ℕ → Bool) (life : Life) (ended : ConsoleEnd) (left left_now : Option (List ℕ))
    (taken taken_now : Option (List ℕ)) : Type 0 where
  pub desk : DeskState
  pub of_life : IsOperators life desk
  pub transcript : IsTranscript ended (tests_in may_give life) (HasFullBook life)
      (nothing_made (inverters life.last.site)) desk left left_now taken taken_now
