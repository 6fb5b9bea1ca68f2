use Rattle.std.proofs.Common.{◌≡◌, ◌++◌, map, take, drop}
use Rattle.plant_simulator.specs.Inverter as rule
use Rattle.plant_simulator.proofs.simulation.lives.empty_each.Given as goal

abbrev pub invariant-loop-inverter : goal.invariant-loop-inverter
invariant-loop-inverter l = l.inverters ≡ map (rule.emptied l.life) (take l.inverter-index l.initial.inverters) ++ drop l.inverter-index l.initial.inverters
