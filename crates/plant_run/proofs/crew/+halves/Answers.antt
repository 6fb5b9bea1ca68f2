use Rattle.std.proofs.Common.{◌≡◌, length, subst, sym, ◌∙◌, List, ◌++◌}
use Rattle.worker_turn.specs.Worker.{WorkerRecord}
use Rattle.plant_run.specs.Forked.{AllRunOut, EachReady}
use Rattle.plant_run.proofs.Halves.{together, first_ready, second_ready, all_as, ready_as}
use Rattle.plant_run.proofs.crew.+halves.Goals as goal

pub work_apart-work_in_halves-requires-clause-low_ready : goal.work_apart-work_in_halves-requires-clause-low_ready
work_apart-work_in_halves-requires-clause-low_ready g t c κs within =
    let low = c.split_at_mut-low in
    let desks = c.split_at_mut-low_desks in
    first_ready g.D.Desk.state low.result.0.now low.result.1.now desks.result.0.now desks.result.1.now
    (ready_as g.D.Desk.state c.args.workers.now _ c.args.desks.now _ low.ensures.value desks.ensures.value c.requires.ready)

pub work_apart-work_in_halves-requires-clause-high_ready : goal.work_apart-work_in_halves-requires-clause-high_ready
work_apart-work_in_halves-requires-clause-high_ready g t c κs within =
    let low = c.split_at_mut-low in
    let desks = c.split_at_mut-low_desks in
    second_ready g.D.Desk.state low.result.0.now low.result.1.now desks.result.0.now desks.result.1.now (desks.ensures.front_len ∙ sym low.ensures.front_len)
    (ready_as g.D.Desk.state c.args.workers.now _ c.args.desks.now _ low.ensures.value desks.ensures.value c.requires.ready)

pub work_apart-returns : goal.work_apart-returns
work_apart-returns g t c =
    let low = c.split_at_mut-low in
    let desks = c.split_at_mut-low_desks in
    let dialers = c.split_at_mut-low_dialers in
    all_as g.D.Desk.state g.D.Desk.tests g.D.Desk.kept g.N.Dialer.links g.N.Dialer.faults (g.K.Clock.may_give c.args.clock.now) _ _ _ _ _ _ _ _ _
    low.ensures.value desks.ensures.value dialers.ensures.value
    (together g.D.Desk.state g.D.Desk.tests g.D.Desk.kept g.N.Dialer.links g.N.Dialer.faults (g.K.Clock.may_give c.args.clock.now)
    low.result.0.now low.result.1.now _ _ desks.result.0.now desks.result.1.now _ _ dialers.result.0.now dialers.result.1.now _ _
    (desks.ensures.front_len ∙ sym low.ensures.front_len) (dialers.ensures.front_len ∙ sym low.ensures.front_len)
    c.work_in_halves.ensures.low c.work_in_halves.ensures.high)
