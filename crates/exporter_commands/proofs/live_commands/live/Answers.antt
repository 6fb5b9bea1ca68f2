use Rattle.std.proofs.Common.{ℕ, map, sym, subst}
use Rattle.std.specs.String.{string_bytes}
use Rattle.stream_io.specs.Streams.{change}
use Rattle.command_link.specs.Dialing.{first_dialing}
use Rattle.run_command.specs.Run.{IsRunEnd}
use Rattle.exporter_commands.specs.declared.words.Task.{Task}
use Rattle.exporter_commands.specs.declared.words.Task.TheVariants as tasks
use Rattle.exporter_commands.specs.Live.{IsSilent, IsTaskDue, IsTaskEnd}
use Rattle.exporter_commands.proofs.OneTask.{one_task, one_run, no_run}
use Rattle.exporter_commands.proofs.live_commands.live.Goals as goal

pub returns-in-Some-clause-commission : goal.returns-in-Some-clause-commission
returns-in-Some-clause-commission g c = λ inverter asked. (
  c.run_with_first.ensures.ends.0,
  subst (λ (task : Task). IsTaskEnd (g.K.Clock.may_give c.args.clock.now) task c.run_with_first.ensures.ends.0 (change g.S.Source.left g.S.Source.faults c.args.site.now c.run_with_first.new.site)
      (change g.O.Sink.taken g.O.Sink.faults c.args.out.now c.run_with_first.new.out) (first_dialing g.N.Dialer.links g.N.Dialer.faults c.args.dialers.now.items c.run_with_first.new.dialers.items) c.run_with_first.result)
      (one_task (map string_bytes c.args.words.now.items) c.in-Some.task (tasks.Commission inverter) c.in-Some.ensures.some asked) c.run_with_first.ensures.ends.1,
)

pub returns-in-Some-clause-commission_due : goal.returns-in-Some-clause-commission_due
returns-in-Some-clause-commission_due g c = λ inverter asked. subst (λ (task : Task). IsTaskDue task (change g.S.Source.left g.S.Source.faults c.args.site.now c.run_with_first.new.site)
    (change g.O.Sink.taken g.O.Sink.faults c.args.out.now c.run_with_first.new.out) (first_dialing g.N.Dialer.links g.N.Dialer.faults c.args.dialers.now.items c.run_with_first.new.dialers.items) c.run_with_first.result)
    (one_task (map string_bytes c.args.words.now.items) c.in-Some.task (tasks.Commission inverter) c.in-Some.ensures.some asked) c.run_with_first.ensures.due

pub returns-in-Some-clause-serve : goal.returns-in-Some-clause-serve
returns-in-Some-clause-serve g c = λ inverter turns asked. (
  c.run_with_first.ensures.ends.0,
  subst (λ (task : Task). IsTaskEnd (g.K.Clock.may_give c.args.clock.now) task c.run_with_first.ensures.ends.0 (change g.S.Source.left g.S.Source.faults c.args.site.now c.run_with_first.new.site)
      (change g.O.Sink.taken g.O.Sink.faults c.args.out.now c.run_with_first.new.out) (first_dialing g.N.Dialer.links g.N.Dialer.faults c.args.dialers.now.items c.run_with_first.new.dialers.items) c.run_with_first.result)
      (one_task (map string_bytes c.args.words.now.items) c.in-Some.task (tasks.Serve inverter turns) c.in-Some.ensures.some asked) c.run_with_first.ensures.ends.1,
)

pub returns-in-Some-clause-serve_due : goal.returns-in-Some-clause-serve_due
returns-in-Some-clause-serve_due g c = λ inverter turns asked. subst (λ (task : Task). IsTaskDue task (change g.S.Source.left g.S.Source.faults c.args.site.now c.run_with_first.new.site)
    (change g.O.Sink.taken g.O.Sink.faults c.args.out.now c.run_with_first.new.out) (first_dialing g.N.Dialer.links g.N.Dialer.faults c.args.dialers.now.items c.run_with_first.new.dialers.items) c.run_with_first.result)
    (one_task (map string_bytes c.args.words.now.items) c.in-Some.task (tasks.Serve inverter turns) c.in-Some.ensures.some asked) c.run_with_first.ensures.due

pub returns-in-Some-clause-serve_writes_nothing : goal.returns-in-Some-clause-serve_writes_nothing
returns-in-Some-clause-serve_writes_nothing g c = λ inverter turns asked.
    c.run_with_first.ensures.silent (subst IsSilent (sym (one_task (map string_bytes c.args.words.now.items) c.in-Some.task (tasks.Serve inverter turns) c.in-Some.ensures.some asked)) tt)

pub returns-in-Some-clause-run : goal.returns-in-Some-clause-run
returns-in-Some-clause-run g c = λ turns asked. absurd (no_run (map string_bytes c.args.words.now.items) c.in-Some.task turns c.in-Some.ensures.some asked)

pub returns-in-Some-clause-run_due : goal.returns-in-Some-clause-run_due
returns-in-Some-clause-run_due g c = λ turns asked. absurd (no_run (map string_bytes c.args.words.now.items) c.in-Some.task turns c.in-Some.ensures.some asked)

pub returns-in-Some-turns_of_run-clause-serve : goal.returns-in-Some-turns_of_run-clause-serve
returns-in-Some-turns_of_run-clause-serve g c = λ inverter turns asked. absurd (c.in-None.ensures.none (tasks.Serve inverter turns) asked)

pub returns-in-Some-turns_of_run-clause-serve_due : goal.returns-in-Some-turns_of_run-clause-serve_due
returns-in-Some-turns_of_run-clause-serve_due g c = λ inverter turns asked. absurd (c.in-None.ensures.none (tasks.Serve inverter turns) asked)

pub returns-in-Some-turns_of_run-clause-serve_writes_nothing : goal.returns-in-Some-turns_of_run-clause-serve_writes_nothing
returns-in-Some-turns_of_run-clause-serve_writes_nothing g c = λ inverter turns asked. absurd (c.in-None.ensures.none (tasks.Serve inverter turns) asked)

pub returns-in-Some-turns_of_run-clause-commission : goal.returns-in-Some-turns_of_run-clause-commission
returns-in-Some-turns_of_run-clause-commission g c = λ inverter asked. absurd (c.in-None.ensures.none (tasks.Commission inverter) asked)

pub returns-in-Some-turns_of_run-clause-commission_due : goal.returns-in-Some-turns_of_run-clause-commission_due
returns-in-Some-turns_of_run-clause-commission_due g c = λ inverter asked. absurd (c.in-None.ensures.none (tasks.Commission inverter) asked)

pub returns-in-None-turns_of_run-clause-serve : goal.returns-in-None-turns_of_run-clause-serve
returns-in-None-turns_of_run-clause-serve g c = λ inverter turns asked. absurd (c.in-None.ensures.none (tasks.Serve inverter turns) asked)

pub returns-in-None-turns_of_run-clause-serve_due : goal.returns-in-None-turns_of_run-clause-serve_due
returns-in-None-turns_of_run-clause-serve_due g c = λ inverter turns asked. absurd (c.in-None.ensures.none (tasks.Serve inverter turns) asked)

pub returns-in-None-turns_of_run-clause-serve_writes_nothing : goal.returns-in-None-turns_of_run-clause-serve_writes_nothing
returns-in-None-turns_of_run-clause-serve_writes_nothing g c = λ inverter turns asked. absurd (c.in-None.ensures.none (tasks.Serve inverter turns) asked)

pub returns-in-None-turns_of_run-clause-commission : goal.returns-in-None-turns_of_run-clause-commission
returns-in-None-turns_of_run-clause-commission g c = λ inverter asked. absurd (c.in-None.ensures.none (tasks.Commission inverter) asked)

pub returns-in-None-turns_of_run-clause-commission_due : goal.returns-in-None-turns_of_run-clause-commission_due
returns-in-None-turns_of_run-clause-commission_due g c = λ inverter asked. absurd (c.in-None.ensures.none (tasks.Commission inverter) asked)

pub returns-in-Some-turns_of_run-clause-run : goal.returns-in-Some-turns_of_run-clause-run
returns-in-Some-turns_of_run-clause-run g c = λ turns asked. (
  c.run.ensures.ends.0,
  subst (λ (n : ℕ). IsRunEnd g.N.Dialer.links g.N.Dialer.faults (g.K.Clock.may_give c.args.clock.now) n c.run.ensures.ends.0
      (change g.S.Source.left g.S.Source.faults c.args.site.now c.run.new.site) (change g.C.Source.left g.C.Source.faults c.args.console.now c.run.new.console)
      (change g.O.Sink.taken g.O.Sink.faults c.args.out.now c.run.new.out)
      c.args.dialers.now.items c.run.new.dialers.items c.run.result)
      (one_run (map string_bytes c.args.words.now.items) c.in-Some-turns_of_run.turns turns c.in-Some-turns_of_run.ensures.some asked) c.run.ensures.ends.1,
)
