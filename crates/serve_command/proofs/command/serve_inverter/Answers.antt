use Rattle.std.proofs.Common.{ℕ, ◌≤◌, refl, ap, subst}
use Rattle.command_io.specs.declared.ended.Ended.TheVariants as ends
use Rattle.command_io.specs.declared.live_fault.LiveFault.TheVariants as faults
use Rattle.serve_command.specs.Serve.{lacks, serves}
use Rattle.serve_command.proofs.command.serve_inverter.Goals as goal

pub returns-in-Err : goal.returns-in-Err
returns-in-Err g c = lacks
    (subst (λ (count : ℕ). count ≤ c.args.inverter) c.in-Err.ensures.count.0 c.in-Err.ensures.count.1) (refl, refl)
    (ap (λ (count : ℕ). ends.Refused (faults.NoSuchInverter count)) c.in-Err.ensures.count.0)

pub returns : goal.returns
returns g c = serves c.in-Ok.job c.serve.ensures.served.0 c.in-Ok.ensures.job (rw c.simulated-bank.ensures at c.serve.ensures.served.1) refl
