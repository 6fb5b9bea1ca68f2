use Rattle.std.proofs.Common.{◌≡◌}
use Rattle.plant_simulator.specs.Summary.{plant_after, peak_after}
use Rattle.plant_simulator.proofs.summary.simulate.Given as goal

abbrev pub invariant-loop-step : goal.invariant-loop-step
invariant-loop-step l = record {
  plant : l.simulation ≡ plant_after l.seed l.inverters l._step;
  peak : l.peak ≡ peak_after l.seed l.inverters l._step;
}
