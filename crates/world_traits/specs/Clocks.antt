-- What a clock gives, and what a watch over it keeps.
use Rattle.std.specs.Prelude.{ℕ, ◌+◌, ◌&&◌, Bool, IsTrue, List, All, min, nat_le}

-- the greatest moment, in milliseconds
abbrev pub moment_max : ℕ
moment_max = 1000000000000000

-- how many readings a watch has at most
abbrev pub readings_max : ℕ
readings_max = 8

-- the clock, and what was read of it so far, in order
pub record WatchState (K : Type 0) : Type 0 where
  pub clock : K
  pub readings : List ℕ

-- each of the readings is a number that a clock of this test may give
abbrev pub AreGiven : (ℕ → Bool) → List ℕ → Type 0
AreGiven test readings = All (λ reading. IsTrue (test reading)) readings

-- where a clock that goes on by itself starts, and by how much it goes on at each reading
pub record Steps : Type 0 where
  pub start : ℕ
  pub step : ℕ

-- so many milliseconds after a moment, and no later than the greatest
abbrev pub later_by : (moment ms : ℕ) → ℕ
later_by moment ms = min (moment + ms) moment_max

-- whether such a clock may give this number: it is a step from the start at least
abbrev pub is_step_reading : Steps → ℕ → Bool
is_step_reading clock reading = nat_le (later_by clock.start clock.step) reading && nat_le reading moment_max
