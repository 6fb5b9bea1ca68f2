-- A queue of writes by their last moments, and what each call makes of it.
use Rattle.std.specs.Prelude.{ℕ, ◌≤◌, nat_lt, Bool, ◌&&◌, ◌==◌, if◌then◌else◌}
use Rattle.std.specs.Prelude.{List, [], ◌∷◌, ◌++◌, length, Option, Some, None}
use Rattle.std.specs.List.{before_first, after_first}
use Rattle.std.specs.List.Sorted.{IsNonDecreasingBy}
use Rattle.revert_timers.specs.declared.expiries.Due.{Due}

-- the most entries of a queue: 32 live writes of each of 64 inverters
abbrev pub expiries_max : ℕ
expiries_max = 2048

-- no last moment is below an earlier entry's
abbrev pub IsRising : List Due → Type 0
IsRising entries = IsNonDecreasingBy (λ due. due.last) entries

-- whether an entry is the write of these numbers
abbrev pub has_numbers : (inverter link number : ℕ) → Due → Bool
has_numbers inverter link number due =
    (due.inverter == inverter) && (due.link == link) && (due.number == number)

-- whether the last moment of an entry is past
abbrev pub is_past : (now : ℕ) → Due → Bool
is_past now due = nat_lt due.last now

-- the entries without the first that a test finds
abbrev pub without_first : (Due → Bool) → List Due → List Due
without_first test entries = before_first test entries ++ after_first test entries

-- the first entry, where it is past
abbrev pub first_past : (now : ℕ) → List Due → Option Due
first_past now [] = None
first_past now (due ∷ later) = if is_past now due then Some due else None

-- what a queue keeps to: its order, its length, and memory for all that it may hold
pub record IsKept (entries : List Due) (capacity : ℕ) : Type 0 where
  pub rising : IsRising entries
  pub few : length entries ≤ expiries_max
  pub memory : expiries_max ≤ capacity
