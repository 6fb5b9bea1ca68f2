use Rattle.std.proofs.Common.{ap, ◌∙◌}
use Rattle.ledger_desk.specs.Plain.{LifeRecord}
use Rattle.plant_run.specs.Rounds.{IsWhole}
use Rattle.plant_run.proofs.LifeTurn.{life_grows, life_works}
use Rattle.plant_run.proofs.plain.turn_of_life.Given as given
use Rattle.plant_run.proofs.plain.turn_of_life.Goals as goal

whole : (g : given.Over) (c : goal.After-one_turn g) → IsWhole c.one_turn.new.desk
whole g c = record {
  begun = ap (λ (l : LifeRecord). l.begun) c.one_turn.ensures.kept ∙ c.requires.whole.begun;
  rolls = c.one_turn.ensures.stays.rolls ∙ c.requires.whole.rolls;
}

pub returns-clause-whole : goal.returns-clause-whole
returns-clause-whole g c = whole g c

pub returns-clause-grows : goal.returns-clause-grows
returns-clause-grows g c =
    life_grows c.args.desk.now c.one_turn.new.desk c.requires.whole (whole g c) c.one_turn.ensures.kept (g.K.Clock.may_give c.args.clock.now)
    c.args.worker.now.job c.args.worker.now c.one_turn.new.worker _ _ _ _ c.one_turn.ensures.works

pub returns-clause-works : goal.returns-clause-works
returns-clause-works g c =
    life_works c.args.desk.now c.one_turn.new.desk c.requires.whole (whole g c) c.one_turn.ensures.kept (g.K.Clock.may_give c.args.clock.now)
    c.args.worker.now.job c.args.worker.now c.one_turn.new.worker _ _ _ _ c.one_turn.ensures.works
