use Rattle.std.proofs.Common.{map}
use Rattle.site_config.proofs.ReadUnits.{AreRatedUpTo}
use Rattle.site_config.proofs.inverters.units_of.Given as goal

abbrev pub invariant-loop-number : goal.invariant-loop-number
invariant-loop-number l = AreRatedUpTo (map (λ inverter. inverter.points) l.inverters) l.number l.units.items
