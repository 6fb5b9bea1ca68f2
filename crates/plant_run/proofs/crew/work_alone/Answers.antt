use Rattle.std.proofs.Common.{◌≡◌, ◌<◌, length, ℕ, arith, get_or, sym, ◌∙◌}
use Rattle.std.proofs.lemmas.Option.{slice_get-get_or}
use Rattle.std.proofs.lemmas.List.{length-set}
use Rattle.plant_run.proofs.Halves.{alone, nobody, is_some, is_none}
use Rattle.plant_run.proofs.crew.work_alone.Goals as goal

pub run_out-requires-clause-rests : goal.run_out-requires-clause-rests
run_out-requires-clause-rests g c =
    let some : 0 < length c.args.workers.now = is_some (length c.args.workers.now) (sym (c.is_empty.ensures) ∙ c.if-not-is_empty.true) in
    (c.requires.ready 0 (get_or c.args.workers.now 0 c.index-workers-0.result) (get_or c.args.desks.now 0 c.index-desks-0.result)
    (slice_get-get_or c.args.workers.now 0 c.index-workers-0.result some)
    (slice_get-get_or c.args.desks.now 0 c.index-desks-0.result (omega (arith, some, c.requires.desks)))).1

pub returns-then-not-is_empty : goal.returns-then-not-is_empty
returns-then-not-is_empty g c =
    alone g.D.Desk.state g.D.Desk.tests g.D.Desk.kept g.N.Dialer.links g.N.Dialer.faults (g.K.Clock.may_give c.args.clock.now)
    c.args.workers.now c.args.desks.now c.args.dialers.now c.index-workers-0.result c.run_out.new.worker c.index-desks-0.result c.run_out.new.desk
    c.index-dialers-0.result c.run_out.new.dialer c.requires.few
    (is_some (length c.args.workers.now) (sym c.is_empty.ensures ∙ c.if-not-is_empty.true)) c.requires.desks c.requires.dialers
    (record {
      works = c.run_out.ensures.works;
      over = c.run_out.ensures.over;
      stays = c.run_out.ensures.stays;
      last = c.run_out.ensures.last;
      kept = c.run_out.ensures.kept;
    }) (length-set c.args.workers.now 0 c.run_out.new.worker) (length-set c.args.desks.now 0 c.run_out.new.desk)
    (length-set c.args.dialers.now 0 c.run_out.new.dialer)

pub returns-else-not-is_empty : goal.returns-else-not-is_empty
returns-else-not-is_empty g c =
    nobody g.D.Desk.state g.D.Desk.tests g.D.Desk.kept g.N.Dialer.links g.N.Dialer.faults (g.K.Clock.may_give c.args.clock.now)
    c.args.workers.now c.args.desks.now c.args.dialers.now (is_none (length c.args.workers.now) (sym c.is_empty.ensures ∙ c.if-not-is_empty.false))
