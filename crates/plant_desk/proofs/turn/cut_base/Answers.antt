use Rattle.std.proofs.Common.{Some, arith, ◌∙◌}
use Rattle.plant_desk.proofs.Kept.{cuts}
use Rattle.plant_desk.proofs.turn.cut_base.Goals as goal

pub store-requires : goal.store-requires
store-requires c =
    let board = c.requires.board in
    let words = board.words in
    let holds = c.requires.holds in
    let same = c.front_now-front.ensures.same in
    (same.0 ∙ c.requires.place, omega arith, cuts _ _ _ _ _ _ holds.0 (Some holds.1) (same.1 ∙ holds.2) (c.front_now-front.ensures.front holds.0 (Some holds.1) holds.2) holds.3.answered)

pub returns-clause-cut : goal.returns-clause-cut
returns-clause-cut c = λ one plant is. c.store.ensures.2 one (Some plant) (c.front_now-front.ensures.same.1 ∙ is)
