use Rattle.std.proofs.Common.{◌≡◌, [], ◌∷◌, Some, ap, sym, ◌∙◌}
use Rattle.plant_book.specs.Part.{PartRecord}
use Rattle.plant_book.specs.Life.{Life}
use Rattle.plant_desk.specs.declared.deed.Deed.TheVariants.{Entered}
use Rattle.plant_desk.specs.declared.board.Hand.{Hand}
use Rattle.plant_desk.specs.Rule.{HasOneMore, holding, plant_of, told}
use Rattle.plant_desk.proofs.Lives.{life_of-push}
use Rattle.plant_desk.proofs.turn.give_entered.Goals as goal

-- the plant is on the last book of the deeds with its entry
on_it : (one : Hand) (plant : PartRecord) (more : HasOneMore one plant) → plant ≡ plant_of (told one (Entered one.number more.entry ∷ []))
on_it one plant more = more.more ∙ sym (ap (λ (l : Life). l.last) (life_of-push one.plant one.seen (Entered one.number more.entry)))

pub raise_front-requires-clause-holds : goal.raise_front-requires-clause-holds
raise_front-requires-clause-holds c =
    let holds = c.requires.holds in
    (holds.0, c.args.plant, c.put_plant.ensures.put holds.0 holds.1, holds.2)

pub give_turn-requires-clause-holds : goal.give_turn-requires-clause-holds
give_turn-requires-clause-holds c =
    let holds = c.requires.holds in
    let one = holds.0 in
    let more = holds.2 in
    let new = told one (Entered one.number more.entry ∷ []) in
    (new, c.raise_front.ensures.raised one c.args.plant more (c.put_plant.ensures.put one holds.1) ∙ ap (λ (p : PartRecord). holding new (Some p)) (on_it one c.args.plant more))

pub returns-clause-given : goal.returns-clause-given
returns-clause-given c = λ one more is.
    let new = told one (Entered one.number more.entry ∷ []) in
    c.give_turn.ensures.given new
    (c.raise_front.ensures.raised one c.args.plant more (c.put_plant.ensures.put one is) ∙ ap (λ (p : PartRecord). holding new (Some p)) (on_it one c.args.plant more))
