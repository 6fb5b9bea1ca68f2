use Rattle.worker_turn.proofs.Agreeing.{entered}
use Rattle.worker_turn.proofs.laws.calls_are_entered.Goals as goal

pub returns : goal.returns
returns c = entered
