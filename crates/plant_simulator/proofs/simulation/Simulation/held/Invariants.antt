use Rattle.std.proofs.Common.{◌≡◌, ◌*◌, ◌^◌, ◌≤◌}
use Rattle.plant_book.specs.Sums.{sum_below}
use Rattle.plant_book.specs.Site.{mw_at}
use Rattle.plant_simulator.specs.World.{held_by}
use Rattle.plant_simulator.proofs.simulation.Simulation.held.Given as goal

abbrev pub invariant-loop-number : goal.invariant-loop-number
invariant-loop-number l = record {
  sum : l.held ≡ sum_below l.number (λ inverter. mw_at l.self.book.site inverter (held_by l.self inverter));
  below : l.held ≤ l.number * (65535 * 10 ^ 12);
}
