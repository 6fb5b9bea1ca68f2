use Rattle.std.proofs.Common.{◌≡◌, take}
use Rattle.uncertain_writes.specs.Live.{most_raw}
use Rattle.uncertain_writes.proofs.live.most_of.Given as goal

abbrev pub invariant-loop-kept : goal.invariant-loop-kept
invariant-loop-kept l = l.most ≡ most_raw (take l.kept-index l.writes)
