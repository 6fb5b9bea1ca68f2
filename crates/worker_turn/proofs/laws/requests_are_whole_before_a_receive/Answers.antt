use Rattle.worker_turn.proofs.Whole.{requested, anywhere}
use Rattle.worker_turn.proofs.laws.requests_are_whole_before_a_receive.Goals as goal

pub returns : goal.returns
returns c = record { so_far = requested; anywhere = anywhere }
