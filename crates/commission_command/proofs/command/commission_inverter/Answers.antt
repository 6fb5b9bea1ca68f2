use Rattle.std.proofs.Common.{ℕ, ◌≤◌, ap, refl, subst}
use Rattle.command_io.specs.declared.ended.Ended.TheVariants as ends
use Rattle.command_io.specs.declared.live_fault.LiveFault.TheVariants as faults
use Rattle.commission_command.specs.Commission.{commissions, lacks}
use Rattle.commission_command.proofs.command.commission_inverter.Goals as goal

pub returns-in-Ok-clause-commissions : goal.returns-in-Ok-clause-commissions
returns-in-Ok-clause-commissions g c = commissions c.in-Ok.job c.commission.result c.in-Ok.ensures.job (record {
  dialer_faults = c.commission.ensures.dialer_faults;
  output_faults = c.commission.ensures.output_faults;
  no_link = λ refused. let still = c.commission.ensures.no_link refused in
      (still.0, (ap g.O.Sink.taken still.1, ap g.O.Sink.faults still.1));
  course = λ other. let passed = c.commission.ensures.course other in (passed.0, (passed.1, passed.2, passed.3));
  complete = λ before link old new replies works written. c.commission.ensures.complete before link old new replies works written;
}) c.end.ensures

pub returns-in-Err-clause-commissions : goal.returns-in-Err-clause-commissions
returns-in-Err-clause-commissions g c = lacks
    (subst (λ (count : ℕ). count ≤ c.args.inverter) c.in-Err.ensures.count.0 c.in-Err.ensures.count.1) (refl, refl) (refl, refl)
    (ap (λ (count : ℕ). ends.Refused (faults.NoSuchInverter count)) c.in-Err.ensures.count.0)
