use Rattle.std.proofs.Common.{◌≡◌, ◌++◌, take}
use Rattle.plant_simulator.specs.Inverter as rule
use Rattle.plant_simulator.proofs.inverter.add_writes.Given as goal

abbrev pub invariant-loop-request : goal.invariant-loop-request
invariant-loop-request l = l.strays.items ≡ l.initial.strays.items ++ rule.old_writes l.life (take l.request-index l.line)
