use Rattle.std.proofs.Common.{refl, sym, subst}
use Rattle.stream_io.specs.Streams.{change}
use Rattle.command_link.specs.Dialing.{dialing}
use Rattle.exporter_commands.specs.declared.words.Task.{Task}
use Rattle.exporter_commands.specs.Live.{IsSilent, IsTaskDue, IsTaskEnd}
use Rattle.exporter_commands.proofs.live_commands.run_task.Goals as goal

pub returns-in-Commission : goal.returns-in-Commission
returns-in-Commission g c =
    let site = change g.S.Source.left g.S.Source.faults c.args.site.now c.commission.new.site in
    let output = change g.O.Sink.taken g.O.Sink.faults c.args.out.now c.commission.new.out in
    let dials = dialing g.N.Dialer.links g.N.Dialer.faults c.args.dialer.now c.commission.new.dialer in
    record {
      ends = (
        c.commission.ensures.ends.0,
        subst (λ (task : Task). IsTaskEnd (g.K.Clock.may_give c.args.clock.now) task c.commission.ensures.ends.0 site output dials c.commission.result) (sym c.in-Commission.is) c.commission.ensures.ends.1,
      );
      due = subst (λ (task : Task). IsTaskDue task site output dials c.commission.result) (sym c.in-Commission.is) c.commission.ensures.due;
      silent = λ silent. absurd (subst IsSilent c.in-Commission.is silent);
      stops = c.commission.ensures.stops;
    }

pub returns-in-Serve : goal.returns-in-Serve
returns-in-Serve g c =
    let site = change g.S.Source.left g.S.Source.faults c.args.site.now c.serve.new.site in
    let output = change g.O.Sink.taken g.O.Sink.faults c.args.out.now c.args.out.now in
    let dials = dialing g.N.Dialer.links g.N.Dialer.faults c.args.dialer.now c.serve.new.dialer in
    record {
      ends = (
        c.serve.ensures.ends.0,
        subst (λ (task : Task). IsTaskEnd (g.K.Clock.may_give c.args.clock.now) task c.serve.ensures.ends.0 site output dials c.serve.result) (sym c.in-Serve.is) c.serve.ensures.ends.1,
      );
      due = subst (λ (task : Task). IsTaskDue task site output dials c.serve.result) (sym c.in-Serve.is) c.serve.ensures.due;
      silent = λ silent. refl;
      stops = λ none. refl;
    }
