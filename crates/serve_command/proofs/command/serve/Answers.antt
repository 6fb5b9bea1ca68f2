use Rattle.std.proofs.Common.{refl}
use Rattle.stream_io.specs.Streams.{change}
use Rattle.command_link.specs.Dialing.{dialing}
use Rattle.command_link.specs.Finding.{no_site}
use Rattle.serve_command.specs.Serve.{IsServeEnd, not_begun}
use Rattle.serve_command.proofs.Serving.{due, served_end}
use Rattle.serve_command.proofs.command.serve.Goals as goal

pub returns-in-Ok : goal.returns-in-Ok
returns-in-Ok g c =
    let read = c.in-Ok.ensures.file.0 in
    let site = change g.S.Source.left g.S.Source.faults c.args.site.now c.read_site.new.source in
    let dials = dialing g.N.Dialer.links g.N.Dialer.faults c.args.dialer.now c.serve_inverter.new.dialer in
    let end : IsServeEnd (g.K.Clock.may_give c.args.clock.now) c.args.inverter c.args.turns read site dials c.serve_inverter.result =
    served_end (g.K.Clock.may_give c.args.clock.now) c.in-Ok.file c.args.inverter c.args.turns read site dials c.serve_inverter.result c.in-Ok.ensures.file.1 c.serve_inverter.ensures in
    record { ends = (read, end); due = due (g.K.Clock.may_give c.args.clock.now) c.args.inverter c.args.turns read site dials c.serve_inverter.result end }

pub returns-in-Err : goal.returns-in-Err
returns-in-Err g c =
    let read = c.in-Err.ensures.ended.0 in
    let site = change g.S.Source.left g.S.Source.faults c.args.site.now c.read_site.new.source in
    let dials = dialing g.N.Dialer.links g.N.Dialer.faults c.args.dialer.now c.args.dialer.now in
    let end : IsServeEnd (g.K.Clock.may_give c.args.clock.now) c.args.inverter c.args.turns read site dials c.in-Err.ended =
    not_begun (no_site c.in-Err.ensures.ended.1) (refl, refl) in
    record { ends = (read, end); due = due (g.K.Clock.may_give c.args.clock.now) c.args.inverter c.args.turns read site dials c.in-Err.ended end }
