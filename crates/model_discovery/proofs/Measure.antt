-- A walk ends: after each answer fewer reads are left that may be wanted.
use Rattle.std.proofs.Common.{ℕ, ◌+◌, ◌-◌, length}
use Rattle.model_discovery.specs.Chain.{models_max}
use Rattle.model_discovery.specs.WalkState.{Place, Seeking, Reading, Finished, Failed, WalkState}

-- at most so many reads are left behind so many models: one for each base, one for each model that
-- still fits, and one for what follows it
abbrev pub reads_at : Place → ℕ → ℕ
reads_at (Seeking base left) n = models_max + 3 + length left
reads_at (Reading next) n = 1 + (models_max - n)
reads_at Finished n = 0
reads_at (Failed error) n = 0

abbrev pub reads_left : WalkState → ℕ
reads_left walk = reads_at walk.place (length walk.models)
