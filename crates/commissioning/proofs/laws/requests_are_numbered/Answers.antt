use Rattle.commissioning.specs.Asking.{start}
use Rattle.commissioning.proofs.Moves.{numbered_from}
use Rattle.commissioning.proofs.laws.requests_are_numbered.Goals as goal

pub returns : goal.returns
returns c = λ target frames. numbered_from (start target) frames
