use Rattle.inverter_worker.proofs.Answered.{answered}
use Rattle.inverter_worker.proofs.laws.answers_have_rows.Goals as goal

pub returns : goal.returns
returns c = answered
