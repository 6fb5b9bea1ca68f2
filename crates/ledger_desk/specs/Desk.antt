-- What a desk means, and what each of its calls does to that.
use Rattle.std.specs.Prelude.{◌≡◌, ◌⊎◌, ℕ, ◌+◌, ◌<◌, ◌≤◌, List, [], ◌∷◌, ◌++◌}
use Rattle.plant_book.specs.declared.call.Call.{Call}
use Rattle.plant_book.specs.declared.call.Reply.{Reply}
use Rattle.plant_book.specs.declared.call.TheConstants.{MOMENT_MAX}
use Rattle.plant_book.specs.declared.book.Entry.{Entry}
use Rattle.plant_book.specs.declared.carry.TheConstants.{CALLS_MAX}
use Rattle.plant_book.specs.Calls.{moment, at_moment}
use Rattle.plant_book.specs.Part.{PartRecord}
use Rattle.plant_ledger.specs.declared.plant.Goal.{Goal}
use Rattle.plant_ledger.specs.declared.rolling.RollFault.{RollFault}
use Rattle.plant_ledger.specs.declared.rolling.RollFault.TheVariants.{LifeFull, NoMemory}
use Rattle.ledger_desk.specs.Calls.{IsReplyTo}

-- The entries that were made through a desk, in order; its front, a number that never falls; the count of its
-- inverters; and the places of its rolls, in order.
pub record DeskState : Type 0 where
  pub made : List Entry
  pub front : ℕ
  pub inverters : ℕ
  pub rolls : List ℕ

-- A test of goals: whether a desk may have told this goal of an inverter at this place, after so many of the
-- entries that were made through it.
abbrev pub GoalTest : Type 1
GoalTest = (made place inverter : ℕ) → Goal → Type 0

-- A test of rolls: whether its roll of this number, counted from 1, ended this book.
abbrev pub RollTest : Type 1
RollTest = (number : ℕ) → PartRecord → Type 0

-- A test of a full life: whether the life had so many calls, and these and the room were more than it may have.
abbrev pub LifeTest : Type 1
LifeTest = (calls : ℕ) → Type 0

-- The tests of a desk: of the goals that it may have told; whether a book of the life was full; of its rolls; and of a
-- full life.
pub record DeskTests : Type 1 where
  pub may_tell : GoalTest
  pub was_full : Type 0
  pub ended : RollTest
  pub was_full_life : LifeTest

-- what has passed a test passes it later too
pub record TestsLast (old new : DeskTests) : Type 0 where
  pub goals : (made place inverter : ℕ) (goal : Goal) → old.may_tell made place inverter goal
      → new.may_tell made place inverter goal
  pub full : old.was_full → new.was_full
  pub rolls : (number : ℕ) (book : PartRecord) → old.ended number book → new.ended number book
  pub lives : (calls : ℕ) → old.was_full_life calls → new.was_full_life calls

-- nothing was entered and nothing rolled; others may have moved the front
pub record EntersNone (old new : DeskState) : Type 0 where
  pub made : new.made ≡ old.made
  pub front : old.front ≤ new.front
  pub inverters : new.inverters ≡ old.inverters
  pub rolls : new.rolls ≡ old.rolls

-- One entry more: the call, at its own moment or a later one, with the reply.
pub record Enters (call : Call) (reply : Reply) (old new : DeskState) : Type 0 where
  pub at : ℕ
  pub later : moment call ≤ at
  pub high : at ≤ MOMENT_MAX
  pub made : new.made ≡ old.made ++ record { call = at_moment at call; reply = reply } ∷ []
  pub fits : IsReplyTo (at_moment at call) reply
  pub front : old.front ≤ new.front
  pub inverters : new.inverters ≡ old.inverters
  pub rolls : new.rolls ≡ old.rolls

-- One roll more: its place is the front right after it.
pub record AddsRoll (old new : DeskState) : Type 0 where
  pub made : new.made ≡ old.made
  pub front : old.front ≤ new.front
  pub inverters : new.inverters ≡ old.inverters
  pub rolls : new.rolls ≡ old.rolls ++ new.front ∷ []

-- with one more book of this room a life of so many calls would have more than it may
abbrev pub IsFullAt : (calls room : ℕ) → Type 0
IsFullAt calls room = CALLS_MAX < calls + room

-- Why a life of so many calls isn't rolled: it is full and the fault tells these calls, or it isn't full and memory
-- is short.
abbrev pub RefusesRoll : (calls room : ℕ) → RollFault → Type 0
RefusesRoll calls room fault =
    (IsFullAt calls room × (fault ≡ LifeFull calls)) ⊎ ((¬ IsFullAt calls room) × (fault ≡ NoMemory))
