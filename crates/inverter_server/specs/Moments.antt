-- The moments at which a clock is read.
use Rattle.std.specs.Prelude.{◌≡◌, ℕ, ◌⊎◌, Bool, IsTrue}

-- a clock, and the greatest of its readings so far, or 0 before the first
pub record SteadyState (K : Type 0) : Type 0 where
  pub clock : K
  pub latest : ℕ

-- a number that a clock of this test may give, or 0, where it wasn't read yet
abbrev pub IsReading : (ℕ → Bool) → ℕ → Type 0
IsReading test moment = (moment ≡ 0) ⊎ IsTrue (test moment)
