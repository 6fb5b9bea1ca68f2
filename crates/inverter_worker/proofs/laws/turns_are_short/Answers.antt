use Rattle.inverter_worker.proofs.Turns.{short}
use Rattle.inverter_worker.proofs.laws.turns_are_short.Goals as goal

pub returns : goal.returns
returns c = short
