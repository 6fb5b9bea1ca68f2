use Rattle.std.proofs.Common.{take}
use Rattle.uncertain_writes.specs.Live.{IsOldest}
use Rattle.uncertain_writes.proofs.rising.least_moment.Given as goal

abbrev pub invariant-loop-write : goal.invariant-loop-write
invariant-loop-write l = IsOldest (take l.write-index l.writes) l.oldest
