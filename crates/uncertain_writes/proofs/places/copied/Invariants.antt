use Rattle.std.proofs.Common.{◌≡◌, take}
use Rattle.uncertain_writes.proofs.places.copied.Given as goal

abbrev pub invariant-loop-one : goal.invariant-loop-one
invariant-loop-one l = l.writes.items ≡ take l.one-index l.kept
