-- The peak of a simulation.
use Rattle.std.specs.Prelude.{◌≡◌, ℕ, ◌≤◌}
use Rattle.plant_simulator.specs.World.{held_in}
use Rattle.plant_simulator.specs.Summary.{plant_after}

-- So many milliwatts were held at the beginning or at the end of a step, and at the beginning and at the end of
-- each step no more.
pub record IsPeak (seed count steps peak : ℕ) : Type 0 where
  pub at : ℕ
  pub within : at ≤ steps
  pub is : peak ≡ held_in (plant_after seed count at)
  pub most : (other : ℕ) → other ≤ steps → held_in (plant_after seed count other) ≤ peak
