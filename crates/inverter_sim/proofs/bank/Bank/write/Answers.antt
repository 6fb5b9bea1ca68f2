use Rattle.std.proofs.Common.{arith, sym, ◌∙◌}
use Rattle.inverter_sim.proofs.Times.{tmax_below}
use Rattle.inverter_sim.proofs.Blocks.{raw_within}
use Rattle.inverter_sim.proofs.bank.Bank.write.Goals as goal

pub overflow_add-until : goal.overflow_add-until
overflow_add-until c = record { fits = omega (arith, tmax_below c.self.inside.rules) }

pub invariant_of-self : goal.invariant_of-self
invariant_of-self c =
    let own = c.self.inside in
    let taken = rw (← c.self.view_is) at (sym c.takes.ensures ∙ c.if-not-takes.false) in
    record {
      after_low = c.self.invariant.after_low;
      after_high = c.self.invariant.after_high;
      raw = rw c.hold.ensures (raw_within own.unit own.rules c.args.values.now taken);
      revert = rw c.hold.ensures (omega arith, omega arith);
      last = c.self.invariant.last;
    }
