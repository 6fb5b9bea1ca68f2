use Rattle.std.proofs.Common.{arith, Some}
use Rattle.plant_desk.specs.Rule.{plant_of}
use Rattle.plant_desk.proofs.Kept.{gives_back}
use Rattle.plant_desk.proofs.turn.give_turn.Goals as goal

pub store-requires : goal.store-requires
store-requires c =
    let board = c.requires.board in
    let words = board.words in
    let holds = c.requires.holds in
    (c.requires.place, omega arith, gives_back _ _ _ _ _ holds.0 holds.1)

pub returns-clause-given : goal.returns-clause-given
returns-clause-given c = λ one is. c.store.ensures.2 one (Some (plant_of one)) is
