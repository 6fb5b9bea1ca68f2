use Rattle.worker_turn.proofs.Reading.{read_all, each_all, bad}
use Rattle.worker_turn.proofs.laws.frames_are_read_in_order.Goals as goal

pub returns : goal.returns
returns c = record { all = read_all; each = each_all; bad = bad }
