use Rattle.std.proofs.Common.{◌≡◌, [], ◌∷◌, Some, ap, sym, ◌∙◌}
use Rattle.plant_book.specs.Part.{PartRecord}
use Rattle.plant_desk.specs.declared.deed.Deed.TheVariants.{Rolled}
use Rattle.plant_desk.specs.declared.board.Hand.{Hand}
use Rattle.plant_desk.specs.Rule.{holding, plant_of, told}
use Rattle.plant_desk.proofs.Kept.{hand_in}
use Rattle.plant_desk.proofs.turn.give_rolled.Goals as goal

abbrev rolled : Hand → Hand
rolled one = told one (Rolled one.number ∷ [])

pub cut_base-requires-clause-holds : goal.cut_base-requires-clause-holds
cut_base-requires-clause-holds c =
    let holds = c.requires.holds in
    (holds.0, c.args.plant, c.put_plant.ensures.put holds.0 holds.1, holds.2)

pub give_turn-requires-clause-holds : goal.give_turn-requires-clause-holds
give_turn-requires-clause-holds c =
    let holds = c.requires.holds in
    let one = holds.0 in
    (rolled one, c.cut_base.ensures.cut one c.args.plant (c.put_plant.ensures.put one holds.1) ∙ ap (λ (p : PartRecord). holding (rolled one) (Some p)) holds.2.next)

pub returns-clause-given : goal.returns-clause-given
returns-clause-given c = λ one is.
    let holds = c.requires.holds in
    let same : holds.0 ≡ one = ap (hand_in one) (sym holds.1 ∙ is) in
    c.give_turn.ensures.given (rolled one)
    (c.cut_base.ensures.cut one c.args.plant (c.put_plant.ensures.put one is)
    ∙ ap (λ (p : PartRecord). holding (rolled one) (Some p)) (holds.2.next ∙ ap (λ (h : Hand). plant_of (rolled h)) same))
