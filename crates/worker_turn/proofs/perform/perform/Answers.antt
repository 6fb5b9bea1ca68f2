use Rattle.std.proofs.Common.{◌≡◌, sym, ap, subst, ◌∙◌}
use Rattle.plant_book.specs.declared.call.Write as writes
use Rattle.inverter_worker.specs.declared.output.Output.{Output}
use Rattle.inverter_worker.specs.declared.output.Output.TheVariants as output
use Rattle.worker_turn.specs.Acts.{IsDoable}
use Rattle.worker_turn.specs.Doing.{world_of}
use Rattle.worker_turn.proofs.Told.{plain, some_same}
use Rattle.worker_turn.proofs.perform.perform.Goals as goal

pub returns-in-Goal-clause-done : goal.returns-in-Goal-clause-done
returns-in-Goal-clause-done g c = rw (c.in-Goal.is, c.came.ensures.input)
    (c.ask_goal.ensures.done g.L.Line.shares (world_of (g.D.Desk.state c.args.desk.now).made (g.L.Line.links c.args.line.now)
    (g.L.Line.faults c.args.line.now) c.args.watch.now.readings (g.L.Line.unread c.args.line.now)))

pub returns-in-Dial-clause-done : goal.returns-in-Dial-clause-done
returns-in-Dial-clause-done g c = rw (c.in-Dial.is, c.came-in-Dial.ensures.input)
    (c.make_link.ensures.done (world_of (g.D.Desk.state c.args.desk.now).made (g.L.Line.links c.args.line.now)
    (g.L.Line.faults c.args.line.now) c.args.watch.now.readings (g.L.Line.unread c.args.line.now)))

pub returns-in-Dial-clause-told : goal.returns-in-Dial-clause-told
returns-in-Dial-clause-told g c = rw c.came-in-Dial.ensures.input
    (plain (g.D.Desk.tests c.args.desk.now) c.args.job.now.inverter
    (g.D.Desk.state c.args.desk.now) c.make_link.result c.make_link.ensures.plain)

pub returns-in-Now-clause-done : goal.returns-in-Now-clause-done
returns-in-Now-clause-done g c = rw (c.in-Now.is, c.came-in-Now.ensures.input)
    (c.read_clock.ensures.done g.L.Line.shares (world_of (g.D.Desk.state c.args.desk.now).made (g.L.Line.links c.args.line.now)
    (g.L.Line.faults c.args.line.now) c.args.watch.now.readings (g.L.Line.unread c.args.line.now)))

pub returns-in-Now-clause-told : goal.returns-in-Now-clause-told
returns-in-Now-clause-told g c = rw c.came-in-Now.ensures.input
    (plain (g.D.Desk.tests c.args.desk.now) c.args.job.now.inverter
    (g.D.Desk.state c.args.desk.now) c.read_clock.result c.read_clock.ensures.plain)

pub returns-in-Call-clause-done : goal.returns-in-Call-clause-done
returns-in-Call-clause-done g c = rw c.in-Call.is
    (c.make_call.ensures.done g.L.Line.shares (world_of (g.D.Desk.state c.args.desk.now).made (g.L.Line.links c.args.line.now)
    (g.L.Line.faults c.args.line.now) c.args.watch.now.readings (g.L.Line.unread c.args.line.now)))

pub returns-in-Some-clause-done : goal.returns-in-Some-clause-done
returns-in-Some-clause-done g c =
    let P : Output → Type 0 = λ output. IsDoable c.args.job.now output c.args.ticket in
    let doable : IsDoable c.args.job.now (output.Release c.in-Release.field-0 c.in-Release.at) c.args.ticket = subst P c.in-Release.is c.requires.doable in
    let same : c.in-Release.field-0 ≡ c.in-Some.ticket = some_same _ _ (sym doable.0 ∙ c.in-Some.is) in
    let is : c.args.output ≡ output.Release c.in-Some.ticket c.in-Release.at =
    c.in-Release.is ∙ ap (λ (w : writes.Write). output.Release w c.in-Release.at) same in
    rw (is, c.came-in-Some.ensures.input)
    (c.give_back.ensures.done g.L.Line.shares (world_of (g.D.Desk.state c.args.desk.now).made (g.L.Line.links c.args.line.now)
    (g.L.Line.faults c.args.line.now) c.args.watch.now.readings (g.L.Line.unread c.args.line.now)))

pub returns-in-Send-clause-done : goal.returns-in-Send-clause-done
returns-in-Send-clause-done g c = rw (c.in-Send.is, c.came-in-Send.ensures.input)
    (c.send_request.ensures.done (world_of (g.D.Desk.state c.args.desk.now).made (g.L.Line.links c.args.line.now)
    (g.L.Line.faults c.args.line.now) c.args.watch.now.readings (g.L.Line.unread c.args.line.now)))

pub returns-in-Send-clause-told : goal.returns-in-Send-clause-told
returns-in-Send-clause-told g c = rw c.came-in-Send.ensures.input
    (plain (g.D.Desk.tests c.args.desk.now) c.args.job.now.inverter
    (g.D.Desk.state c.args.desk.now) c.send_request.result c.send_request.ensures.plain)

pub returns-in-Receive-clause-done : goal.returns-in-Receive-clause-done
returns-in-Receive-clause-done g c = rw (c.in-Receive.is, c.came-in-Receive.ensures.input)
    (c.wait_for_frame.ensures.done (world_of (g.D.Desk.state c.args.desk.now).made (g.L.Line.links c.args.line.now)
    (g.L.Line.faults c.args.line.now) c.args.watch.now.readings (g.L.Line.unread c.args.line.now)))

pub returns-in-Receive-clause-told : goal.returns-in-Receive-clause-told
returns-in-Receive-clause-told g c = rw c.came-in-Receive.ensures.input
    (plain (g.D.Desk.tests c.args.desk.now) c.args.job.now.inverter
    (g.D.Desk.state c.args.desk.now) c.wait_for_frame.result c.wait_for_frame.ensures.plain)

pub returns-in-HangUp-clause-done : goal.returns-in-HangUp-clause-done
returns-in-HangUp-clause-done g c = rw (c.in-HangUp.is, c.came-in-HangUp.ensures.input)
    (c.take_down.ensures.done (world_of (g.D.Desk.state c.args.desk.now).made (g.L.Line.links c.args.line.now)
    (g.L.Line.faults c.args.line.now) c.args.watch.now.readings (g.L.Line.unread c.args.line.now)))

pub returns-in-HangUp-clause-told : goal.returns-in-HangUp-clause-told
returns-in-HangUp-clause-told g c = rw c.came-in-HangUp.ensures.input
    (plain (g.D.Desk.tests c.args.desk.now) c.args.job.now.inverter
    (g.D.Desk.state c.args.desk.now) c.take_down.result c.take_down.ensures.plain)
