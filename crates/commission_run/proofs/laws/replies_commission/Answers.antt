use Rattle.std.proofs.Common.{ap}
use Rattle.commissioning.specs.Stage.{Standing}
use Rattle.commissioning.proofs.Leading.{commissioned_at}
use Rattle.commission_run.proofs.laws.replies_commission.Goals as goal

pub returns : goal.returns
returns c = λ target all found is. (found, ap (λ (s : Standing). s.stage) (commissioned_at target all found is).standing)
