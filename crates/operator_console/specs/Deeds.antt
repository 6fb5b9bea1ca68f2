-- What a console does of one line.
use Rattle.std.specs.Prelude.{◌≡◌, ℕ, ◌+◌, ◌≤◌, Bool, IsTrue, List, [], ◌∷◌, ◌++◌, All, map, Some}
use Rattle.std.specs.List.{flat_map}
use Rattle.plant_book.specs.declared.call.Call.{Call}
use Rattle.plant_book.specs.declared.call.TheConstants.{MOMENT_MAX}
use Rattle.plant_book.specs.declared.book.Entry.{Entry}
use Rattle.plant_book.specs.Calls.{moment, at_moment}
use Rattle.plant_book.specs.Part.{PartRecord}
use Rattle.plant_ledger.specs.declared.plant.Goal.{Goal}
use Rattle.ledger_desk.specs.Calls.{IsReplyTo}
use Rattle.ledger_desk.specs.Desk.{GoalTest, RollTest, LifeTest, DeskTests}
use Rattle.operator_console.specs.declared.order.Order.{Order}
use Rattle.operator_console.specs.declared.order.Order.TheVariants as orders
use Rattle.operator_console.specs.Orders.{IsOrder, call_of, asked_by}
use Rattle.operator_console.specs.Comments.{reply_line, goal_line, bad_line, full_line, rolled_text}

-- a goal that was told: of which inverter, and where the desk's front stood
pub record Told : Type 0 where
  pub inverter : ℕ
  pub front : ℕ
  pub goal : Goal

-- What was done of a line: nothing of an empty one; it spells no order; its call was entered at a reading of the
-- clock, the desk's front then, and the goals that were told behind it; the book was rolled, and the front then; or
-- the life was full, with so many calls.
pub data Deed : Type 0 where
  Passed : Deed
  Refused : Deed
  Entered : (reading : ℕ) (entry : Entry) (front : ℕ) (told : List Told) → Deed
  Rolled : (front : ℕ) (book : PartRecord) → Deed
  LifeFull : (calls : ℕ) → Deed

-- the entries that it made
abbrev pub deed_entries : Deed → List Entry
deed_entries (Entered reading entry front told) = entry ∷ []
deed_entries _ = []

-- the places of its rolls
abbrev pub deed_rolls : Deed → List ℕ
deed_rolls (Rolled front book) = front ∷ []
deed_rolls _ = []

-- where the desk's front stood in it
abbrev pub deed_fronts : Deed → List ℕ
deed_fronts (Entered reading entry front told) = front ∷ map (λ one. one.front) told
deed_fronts (Rolled front book) = front ∷ []
deed_fronts _ = []

-- what it writes, of the line of this number
abbrev pub deed_text : (number : ℕ) → Deed → List ℕ
deed_text number Passed = []
deed_text number Refused = bad_line number
deed_text number (Entered reading entry front told) =
    reply_line entry.reply ++ flat_map (λ one. goal_line one.inverter one.goal) told
deed_text number (Rolled front book) = rolled_text book
deed_text number (LifeFull calls) = full_line

-- What the clock and the desk tell: which readings may be given, which goals, rolled books and full lives there were.
pub record Tests : Type 1 where
  pub may_give : ℕ → Bool
  pub may_tell : GoalTest
  pub ended : RollTest
  pub full_life : LifeTest

abbrev pub tests_of : (ℕ → Bool) → DeskTests → Tests
tests_of may_give desk =
    record { may_give = may_give; may_tell = desk.may_tell; ended = desk.ended; full_life = desk.was_full_life }

-- the entry of a call: at its own moment or a later one, with a reply that it may have
pub record IsEntryOf (call : Call) (entry : Entry) : Type 0 where
  pub at : ℕ
  pub later : moment call ≤ at
  pub high : at ≤ MOMENT_MAX
  pub call_is : entry.call ≡ at_moment at call
  pub fits : IsReplyTo entry.call entry.reply

-- An order's call was entered at a reading of the clock, and the goals that it asks for were told behind it, after
-- so many entries of the desk, this one among them.
pub record IsEntered (tests : Tests) (inverters made : ℕ) (line : List ℕ) (reading : ℕ) (entry : Entry)
    (told : List Told) : Type 0 where
  pub order : Order
  pub spelled : IsOrder inverters line order
  pub given : IsTrue (tests.may_give reading)
  pub call : Call
  pub is_call : call_of order reading ≡ Some call
  pub entry_is : IsEntryOf call entry
  pub asked : map (λ one. one.inverter) told ≡ asked_by order inverters
  pub goals : All (λ one. tests.may_tell (made + 1) one.front one.inverter one.goal) told

-- The deed is that of this line, on a desk of so many inverters, entries and rolls.
abbrev pub IsDeed : Tests → (inverters made rolls : ℕ) → (line : List ℕ) → Deed → Type 0
IsDeed tests inverters made rolls line Passed = line ≡ []
IsDeed tests inverters made rolls line Refused =
    (¬ (line ≡ [])) × ((order : Order) → IsOrder inverters line order → ⊥)
IsDeed tests inverters made rolls line (Entered reading entry front told) =
    IsEntered tests inverters made line reading entry told
IsDeed tests inverters made rolls line (Rolled front book) =
    IsOrder inverters line orders.Roll × tests.ended (rolls + 1) book
IsDeed tests inverters made rolls line (LifeFull calls) =
    IsOrder inverters line orders.Roll × tests.full_life calls
