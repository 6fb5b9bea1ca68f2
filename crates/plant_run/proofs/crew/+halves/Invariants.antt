use Rattle.std.proofs.Common.{length, ◌+◌, ◌-◌, ◌*◌}
use Rattle.plant_run.proofs.crew.+halves.Given as goal

abbrev pub decreases-work_apart : goal.decreases-work_apart
decreases-work_apart g l = 4 * length l.workers.now

abbrev pub decreases-work_in_halves : goal.decreases-work_in_halves
decreases-work_in_halves g l = 4 * (length l.low.now + length l.high.now) - 1

abbrev pub decreases-work_in_halves-first : goal.decreases-work_in_halves-first
decreases-work_in_halves-first g l = 4 * length l.low.now + 1

abbrev pub decreases-work_in_halves-second : goal.decreases-work_in_halves-second
decreases-work_in_halves-second g l = 4 * length l.high.now + 1
