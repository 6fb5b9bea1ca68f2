-- A commissioning ends: each frame leaves fewer that may be taken.
use Rattle.std.specs.Prelude.{ℕ, ◌+◌, ◌-◌, ◌*◌, length}
use Rattle.model_discovery.specs.WalkState.{Place, Seeking, Reading, Finished, Failed}
use Rattle.commissioning.specs.Stage.{Stage, Discovering, ReadingCapacity, ReadingControls, WritingFloor, ReadingBack, Commissioned, Refused, Standing}

-- at most so many reads of a walk are left behind so many models: one for each base, one for each model
-- that the chain may still have, and one for what follows the last
abbrev pub reads_left : Place → ℕ → ℕ
reads_left (Seeking base left) models = 130 + length left
reads_left (Reading next) models = 1 + (128 - models)
reads_left Finished models = 0
reads_left (Failed error) models = 0

-- at most so many requests are left, the one that is asked among them
abbrev pub requests_left : Stage → ℕ
requests_left (Discovering walk) = 4 + reads_left walk.place (length walk.models)
requests_left (ReadingCapacity start base) = 4
requests_left (ReadingControls base wmax wsf) = 3
requests_left (WritingFloor found) = 2
requests_left (ReadingBack found) = 1
requests_left (Commissioned found) = 0
requests_left (Refused error found) = 0

-- at most so many frames may still be taken: eight for each request
abbrev pub frames_left : Standing → ℕ
frames_left standing = 8 * requests_left standing.stage - standing.skipped
