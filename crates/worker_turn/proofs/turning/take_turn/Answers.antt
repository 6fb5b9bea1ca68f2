use Rattle.std.proofs.Common.{List, subst}
use Rattle.inverter_worker.specs.declared.output.Sent.{Sent}
use Rattle.worker_turn.specs.Doing.{World, world_of}
use Rattle.worker_turn.specs.Worker.{WorkerRecord, IsTurnOn}
use Rattle.worker_turn.specs.Turning.{GoesOn}
use Rattle.worker_turn.proofs.Turn.{whole, few, idle}
use Rattle.worker_turn.proofs.Fewer.{fewer, ready_fewer}
use Rattle.worker_turn.proofs.turning.take_turn.Goals as goal

pub returns : goal.returns
returns g c =
    let shares = g.L.Line.shares in
    let before : WorkerRecord = record { job = c.args.job.now; state = c.args.state; log = c.args.log.now.items; unread = g.L.Line.unread c.args.line.now } in
    let after : WorkerRecord =
    record { job = c.args.job.now; state = c.go_on.result; log = c.go_on.new.log.items; unread = g.L.Line.unread c.go_on.new.line } in
    let tests = g.D.Desk.tests c.go_on.new.desk in
    let desk = g.D.Desk.state c.args.desk.now in
    let desk_now = g.D.Desk.state c.go_on.new.desk in
    let old : World = world_of desk.made (g.L.Line.links c.args.line.now) (g.L.Line.faults c.args.line.now) c.args.watch.now.readings before.unread in
    let new : World = world_of desk_now.made (g.L.Line.links c.go_on.new.line) (g.L.Line.faults c.go_on.new.line) c.go_on.new.watch.readings after.unread in
    let begun = c.begin-begun.result in
    let P : List Sent → Type 0 = λ logged. GoesOn shares tests desk.front desk_now.front before.job begun.0 begun.1 after.state logged after.log old new in
    let goes : GoesOn shares tests desk.front desk_now.front before.job begun.0 begun.1 after.state before.log after.log old new =
    subst P c.begin-begun.ensures.items c.go_on.ensures.turn in
    let row = c.begin-begun.ensures.row in
    let turn : IsTurnOn shares tests desk.front desk_now.front before after old new =
    whole shares tests desk.front desk_now.front before after begun.0 begun.1 row.0 old new row.1 row.2 c.begin-begun.ensures.begins c.requires.readings goes in
    record {
      between = goes.over;
      turn = turn;
      few = few shares tests desk.front desk_now.front before after old new turn;
      given = c.go_on.ensures.given;
      memory = λ short. idle shares tests desk.front desk_now.front before.job begun.0 after.state begun.1 before.log after.log old new goes short;
      fewer = λ again. ready_fewer after.state.step after.state.turns before.state.turns again
          (fewer shares tests desk.front desk_now.front before after old new c.requires.ready turn);
      stays = c.go_on.ensures.stays;
      last = c.go_on.ensures.last;
      kept = c.go_on.ensures.kept;
      line = c.go_on.ensures.line;
      clock = c.go_on.ensures.clock;
    }
