use Rattle.std.proofs.Common.{refl}
use Rattle.stream_io.specs.Streams.{change}
use Rattle.command_link.specs.Dialing.{dialing}
use Rattle.command_link.specs.Finding.{no_site}
use Rattle.commission_command.specs.Commission.{IsCommissionEnd, not_begun}
use Rattle.commission_command.proofs.Commissioned.{commissioned_end, due}
use Rattle.commission_command.proofs.command.commission.Goals as goal

pub returns-in-Ok : goal.returns-in-Ok
returns-in-Ok g c =
    let read = c.in-Ok.ensures.file.0 in
    let site = change g.S.Source.left g.S.Source.faults c.args.site.now c.read_site.new.source in
    let output = change g.O.Sink.taken g.O.Sink.faults c.args.out.now c.commission_inverter.new.out in
    let dials = dialing g.N.Dialer.links g.N.Dialer.faults c.args.dialer.now c.commission_inverter.new.dialer in
    let end : IsCommissionEnd c.args.inverter read site output dials c.commission_inverter.result =
    commissioned_end c.in-Ok.file c.args.inverter read site output dials c.commission_inverter.result c.in-Ok.ensures.file.1 c.commission_inverter.ensures.commissions in
    record { ends = (read, end); due = due c.args.inverter read site output dials c.commission_inverter.result end; stops = c.commission_inverter.ensures.stops }

pub returns-in-Err : goal.returns-in-Err
returns-in-Err g c =
    let read = c.in-Err.ensures.ended.0 in
    let site = change g.S.Source.left g.S.Source.faults c.args.site.now c.read_site.new.source in
    let output = change g.O.Sink.taken g.O.Sink.faults c.args.out.now c.args.out.now in
    let dials = dialing g.N.Dialer.links g.N.Dialer.faults c.args.dialer.now c.args.dialer.now in
    let end : IsCommissionEnd c.args.inverter read site output dials c.in-Err.ended =
    not_begun (no_site c.in-Err.ensures.ended.1) (refl, refl) (refl, refl) in
    record { ends = (read, end); due = due c.args.inverter read site output dials c.in-Err.ended end; stops = λ none. refl }
