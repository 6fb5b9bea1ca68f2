-- What the code keeps of a commissioning's stage, and what is true of it. No promise to a caller names this.
use Rattle.std.specs.Prelude.{◌+◌, ◌≤◌}
use Rattle.model_discovery.specs.WalkState.{Place, Seeking, Reading, Finished, Failed, WalkState}
use Rattle.commissioning.specs.declared.steps.Stage as kept
use Rattle.commissioning.specs.declared.steps.Stage.TheVariants as kept_stage
use Rattle.commissioning.specs.Stage.{Stage, Discovering, ReadingCapacity, ReadingControls, WritingFloor, ReadingBack, Commissioned, Refused, Standing}
use Rattle.commissioning.specs.Ending.{requests_left}

abbrev pub stage_of : kept.Stage → WalkState → Stage
stage_of kept_stage.Discovering walk = Discovering walk
stage_of (kept_stage.ReadingCapacity start base) walk = ReadingCapacity start base
stage_of (kept_stage.ReadingControls base wmax wsf) walk = ReadingControls base wmax wsf
stage_of (kept_stage.WritingFloor found) walk = WritingFloor found
stage_of (kept_stage.ReadingBack found) walk = ReadingBack found
stage_of (kept_stage.Commissioned found) walk = Commissioned found
stage_of (kept_stage.Refused error found) walk = Refused error found

-- a walk that wants a read
abbrev pub IsUnderway : Place → Type 0
IsUnderway (Seeking base left) = Unit {0}
IsUnderway (Reading next) = Unit {0}
IsUnderway Finished = ⊥
IsUnderway (Failed error) = ⊥

-- while models are looked for, the walk wants a read
abbrev pub Wants : Stage → Type 0
Wants (Discovering walk) = IsUnderway walk.place
Wants (ReadingCapacity start base) = Unit {0}
Wants (ReadingControls base wmax wsf) = Unit {0}
Wants (WritingFloor found) = Unit {0}
Wants (ReadingBack found) = Unit {0}
Wants (Commissioned found) = Unit {0}
Wants (Refused error found) = Unit {0}

-- what is true of every commissioning
pub record IsSound (standing : Standing) : Type 0 where
  pub base : standing.target.port.base ≤ 65514
  pub few : standing.number + requests_left standing.stage ≤ 137
  pub skipped : standing.skipped ≤ 7
  pub wants : Wants standing.stage
