-- What a worker's turn leaves of its desk, and what the desk's tests tell of it.
use Rattle.std.specs.Prelude.{◌≡◌, ℕ, ◌≤◌, length}
use Rattle.ledger_desk.specs.Desk.{DeskState, DeskTests}
use Rattle.inverter_worker.specs.declared.input.Input.{Input}
use Rattle.inverter_worker.specs.declared.input.Input.TheVariants as input

-- Others may have moved the front, and no book was rolled. What was entered is told apart.
pub record RollsNone (old new : DeskState) : Type 0 where
  pub front : old.front ≤ new.front
  pub inverters : new.inverters ≡ old.inverters
  pub rolls : new.rolls ≡ old.rolls

-- A goal that came is one that the desk may have told after so many entries of its own, at a place from its
-- front then to its front now. Where the book was full, the desk was full.
abbrev pub IsTold : DeskTests → (inverter : ℕ) → (made begun now : ℕ) → Input → Type 0
IsTold tests inverter made begun now (input.Goal goal) =
    (place : ℕ) × (begun ≤ place) × (place ≤ now) × tests.may_tell made place inverter goal
IsTold tests inverter made begun now input.Full = tests.was_full
IsTold tests inverter made begun now came = Unit {0}

-- The same of what came just now. No promise to a caller names this.
abbrev pub IsToldNow : DeskTests → (inverter : ℕ) → (now : DeskState) → Input → Type 0
IsToldNow tests inverter now (input.Goal goal) = tests.may_tell (length now.made) now.front inverter goal
IsToldNow tests inverter now input.Full = tests.was_full
IsToldNow tests inverter now came = Unit {0}

-- Neither a goal nor a full book. No promise to a caller names this.
abbrev pub IsPlain : Input → Type 0
IsPlain (input.Goal goal) = ⊥
IsPlain input.Full = ⊥
IsPlain came = Unit {0}
