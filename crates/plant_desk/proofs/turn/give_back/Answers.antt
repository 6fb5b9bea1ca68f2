use Rattle.std.proofs.Common.{◌≡◌, Some, ap, sym, ◌∙◌}
use Rattle.plant_book.specs.Part.{PartRecord}
use Rattle.plant_desk.specs.declared.board.Hand.{Hand}
use Rattle.plant_desk.specs.Rule.{holding, plant_of}
use Rattle.plant_desk.proofs.Kept.{hand_in}
use Rattle.plant_desk.proofs.turn.give_back.Goals as goal

pub give_turn-requires-clause-holds : goal.give_turn-requires-clause-holds
give_turn-requires-clause-holds c =
    let holds = c.requires.holds in
    (holds.0, c.put_plant.ensures.put holds.0 holds.1 ∙ ap (λ (p : PartRecord). holding holds.0 (Some p)) holds.2)

pub returns-clause-given : goal.returns-clause-given
returns-clause-given c = λ one is.
    let holds = c.requires.holds in
    let same : holds.0 ≡ one = ap (hand_in one) (sym holds.1 ∙ is) in
    c.give_turn.ensures.given one
    (c.put_plant.ensures.put one is ∙ ap (λ (p : PartRecord). holding one (Some p)) (holds.2 ∙ ap (λ (h : Hand). plant_of h) same))
