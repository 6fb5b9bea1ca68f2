use Rattle.worker_turn.proofs.Seeing.{seen_anywhere, own}
use Rattle.worker_turn.proofs.laws.each_sight_has_its_frame.Goals as goal

pub returns : goal.returns
returns c = record { each = seen_anywhere; own = own }
