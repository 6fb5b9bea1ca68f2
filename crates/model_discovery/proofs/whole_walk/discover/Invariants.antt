use Rattle.std.proofs.Common.{◌≡◌, None}
use Rattle.model_discovery.specs.WalkState.{IsOn, fault_of}
use Rattle.model_discovery.proofs.Measure.{reads_left}
use Rattle.model_discovery.proofs.whole_walk.discover.Given as goal

abbrev pub invariant-loop-start : goal.invariant-loop-start
invariant-loop-start g l = IsOn (g.M.RegisterMap.answers l.map) l.walk × (fault_of l.walk.place ≡ None)

abbrev pub decreases-loop-start : goal.decreases-loop-start
decreases-loop-start g l = reads_left l.walk
