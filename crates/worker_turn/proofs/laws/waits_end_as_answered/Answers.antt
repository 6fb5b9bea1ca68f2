use Rattle.worker_turn.proofs.Answering.{answered}
use Rattle.worker_turn.proofs.laws.waits_end_as_answered.Goals as goal

pub returns : goal.returns
returns c = answered
