use Rattle.std.proofs.Common.{ap, subst}
use Rattle.world_traits.specs.Clocks.{AreGiven}
use Rattle.plant_run.proofs.Turning.{did, answers_rest}
use Rattle.plant_run.proofs.turns.one_turn.Goals as goal

pub returns-clause-works : goal.returns-clause-works
returns-clause-works g c =
    did (g.D.Desk.tests c.turn.new.desk) (g.D.Desk.state c.args.desk.now).front (g.D.Desk.state c.turn.new.desk).front c.args.worker.now c.turn.new.self
    (g.D.Desk.state c.args.desk.now).made (g.D.Desk.state c.turn.new.desk).made
    (g.N.Dialer.links c.args.dialer.now) (g.N.Dialer.links c.turn.new.dialer) (g.N.Dialer.faults c.args.dialer.now) (g.N.Dialer.faults c.turn.new.dialer)
    (g.K.Clock.may_give c.args.clock.now)
    (answers_rest c.turn.result c.turn.new.self.state.step c.turn.ensures.answer) c.turn.ensures.job
    c.new.result.readings c.turn.new.watch.readings
    (let P : g.row.K.Denot → Type 0 = λ clock. AreGiven (g.K.Clock.may_give clock) c.turn.new.watch.readings in subst P (ap (λ w. w.clock) c.new.ensures) c.turn.ensures.given)
    c.requires.rests (ap (λ w. w.readings) c.new.ensures) c.turn.ensures.turn c.turn.ensures.over
