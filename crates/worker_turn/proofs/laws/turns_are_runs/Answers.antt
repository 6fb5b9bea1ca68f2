use Rattle.worker_turn.proofs.Cutting.{turn}
use Rattle.worker_turn.proofs.laws.turns_are_runs.Goals as goal

pub returns : goal.returns
returns c = turn
