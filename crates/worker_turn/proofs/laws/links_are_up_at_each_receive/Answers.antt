use Rattle.worker_turn.proofs.Up.{up_at_receive, up_when_ready}
use Rattle.worker_turn.proofs.laws.links_are_up_at_each_receive.Goals as goal

pub returns : goal.returns
returns c = record { receive = up_at_receive; ready = up_when_ready }
