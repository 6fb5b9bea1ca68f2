use Rattle.std.proofs.Common.{rules}
use Rattle.model_discovery.proofs.Steps.{sound_nil}
use Rattle.model_discovery.proofs.walk.Walk.new.Goals as goal

pub invariant_of-result : goal.invariant_of-result
invariant_of-result c = record { fits = search rules; sound = rw c.new.ensures sound_nil }
