use Rattle.std.proofs.Common.{◌≡◌, ◌-◌, map}
use Rattle.std.specs.List.{range_with_len}
use Rattle.inverter_sim.specs.RegisterMap.{register}
use Rattle.inverter_sim.proofs.bank.Bank.read.Given as goal

-- the registers so far
abbrev pub invariant-loop-address : goal.invariant-loop-address
invariant-loop-address l = l.values ≡ map (register l.self) (range_with_len l.start (l.address - l.start))
