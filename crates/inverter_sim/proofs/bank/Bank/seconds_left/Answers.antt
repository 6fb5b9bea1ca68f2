use Rattle.std.proofs.Common.{arith, sym, ◌∙◌}
use Rattle.inverter_sim.proofs.Times.{tmax_below}
use Rattle.inverter_sim.proofs.bank.Bank.seconds_left.Goals as goal

pub overflow_cast-result : goal.overflow_cast-result
overflow_cast-result c =
    let to_come = rw (sym c.revert.ensures ∙ c.in-Some.is) at c.self.invariant.revert in
    record { fits = omega (arith, to_come, c.div_ceil.ensures, tmax_below c.self.inside.rules) }
