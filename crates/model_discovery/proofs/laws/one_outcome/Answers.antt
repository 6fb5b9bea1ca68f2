use Rattle.model_discovery.proofs.Unique.{one_outcome}
use Rattle.model_discovery.proofs.laws.one_outcome.Goals as goal

pub returns : goal.returns
returns c = one_outcome
