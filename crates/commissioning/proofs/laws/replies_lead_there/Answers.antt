use Rattle.commissioning.proofs.Leading.{reached_at, commissioned_at}
use Rattle.commissioning.proofs.laws.replies_lead_there.Goals as goal

pub returns : goal.returns
returns c = record { asking = reached_at; end = commissioned_at }
