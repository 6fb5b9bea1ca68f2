-- What is commissioned, and where a commissioning stands.
use Rattle.std.specs.Prelude.{ℕ, ℤ, Option, Some, None}
use Rattle.model_discovery.specs.WalkState.{WalkState}
use Rattle.commissioning.specs.declared.fault.CommissionFault.{CommissionFault}
use Rattle.commissioning.specs.declared.found.Record702.{Record702}
use Rattle.commissioning.specs.declared.target.Target.{Target}

-- the stages of a commissioning in their order, and its two ends
pub data Stage : Type 0 where
  -- the chain of models is walked over
  Discovering : (walk : WalkState) → Stage
  -- the block of the first 702 is read, from its start on; the first 704 stands at the base
  ReadingCapacity : (start base : ℕ) → Stage
  -- the block of the first 704 is read; WMax and W_SF are those of the 702
  ReadingControls : (base wmax : ℕ) (wsf : ℤ) → Stage
  -- what was found is what the site file has: the floor is written
  WritingFloor : (found : Record702) → Stage
  -- the limit is read back
  ReadingBack : (found : Record702) → Stage
  -- the end: the inverter shows its floor
  Commissioned : (found : Record702) → Stage
  -- the other end, and what was found by then
  Refused : (fault : CommissionFault) (found : Option Record702) → Stage

-- the points that were found: they are there once the block of the 704 has come
abbrev pub found_at : Stage → Option Record702
found_at (Discovering walk) = None
found_at (ReadingCapacity start base) = None
found_at (ReadingControls base wmax wsf) = None
found_at (WritingFloor found) = Some found
found_at (ReadingBack found) = Some found
found_at (Commissioned found) = Some found
found_at (Refused fault found) = found

-- the two ends
abbrev pub IsOver : Stage → Type 0
IsOver (Discovering walk) = ⊥
IsOver (ReadingCapacity start base) = ⊥
IsOver (ReadingControls base wmax wsf) = ⊥
IsOver (WritingFloor found) = ⊥
IsOver (ReadingBack found) = ⊥
IsOver (Commissioned found) = Unit {0}
IsOver (Refused fault found) = Unit {0}

-- A commissioning: of what, its stage, the number of the request that is asked, and how many frames of other
-- numbers have come since it was.
pub record Standing : Type 0 where
  pub target : Target
  pub stage : Stage
  pub number : ℕ
  pub skipped : ℕ
