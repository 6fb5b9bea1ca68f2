use Rattle.worker_turn.proofs.Agreeing.{counted}
use Rattle.worker_turn.proofs.laws.failures_are_counted.Goals as goal

pub returns : goal.returns
returns c = counted
