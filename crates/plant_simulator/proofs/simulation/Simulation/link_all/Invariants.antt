use Rattle.std.proofs.Common.{◌≡◌}
use Rattle.plant_simulator.specs.Step as steps
use Rattle.plant_simulator.proofs.simulation.Simulation.link_all.Given as goal

abbrev pub invariant-loop-number : goal.invariant-loop-number
invariant-loop-number l = l.self ≡ steps.linked l.number l.initial.self
