use Rattle.std.proofs.Common.{rules, arith}
use Rattle.plant_desk.proofs.Kept.{tries}
use Rattle.plant_desk.proofs.turn.try_turn.Goals as goal

pub compare_exchange-requires : goal.compare_exchange-requires
compare_exchange-requires c =
    let board = c.requires.board in
    let words = board.words in
    (c.requires.place, omega arith, tries _ _ _ _ _ _ c.requires.rests.0 c.requires.rests.1 (search rules))
