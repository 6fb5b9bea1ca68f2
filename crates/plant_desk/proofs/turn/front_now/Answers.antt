use Rattle.std.proofs.Common.{arith}
use Rattle.plant_desk.proofs.Kept.{sees_front}
use Rattle.plant_desk.proofs.turn.front_now.Goals as goal

pub load-requires : goal.load-requires
load-requires c = let board = c.requires.board in let words = board.words in (c.requires.place, omega arith, sees_front _ _ _ _ _)
