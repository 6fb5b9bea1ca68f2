use Rattle.std.proofs.Common.{◌≡◌, replicate}
use Rattle.plant_simulator.specs.World.{fresh}
use Rattle.plant_simulator.proofs.simulation.fresh_inverters.Given as goal

abbrev pub invariant-loop-made : goal.invariant-loop-made
invariant-loop-made l = l.inverters.items ≡ replicate l._made fresh
