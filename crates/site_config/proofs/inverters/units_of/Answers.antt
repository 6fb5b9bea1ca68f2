use Rattle.std.proofs.Common.{map}
use Rattle.std.proofs.lemmas.Result.{err_from_is_err_and}
use Rattle.site_config.specs.Checks.{unit_checks}
use Rattle.site_config.proofs.FirstFaults.{fault_at}
use Rattle.site_config.proofs.ReadUnits.{AreRatedUpTo-more, points_at_number}
use Rattle.site_config.proofs.inverters.units_of.Goals as goal

pub returns-in_err-unit : goal.returns-in_err-unit
returns-in_err-unit c =
    let p = err_from_is_err_and c.from_residual-in_err-unit.result c.from_residual-in_err-unit.ensures.1 in
    let item = c.index-inverters-number in
    let here = points_at_number c.args.inverters.now c.loop-number.number item.result c.loop-number-test.true item.is in
    rw (p.1, p.2) (fault_at unit_checks (map (λ inverter. inverter.points) c.args.inverters.now) c.loop-number.number item.result.points c.in_err-unit.field-0.0 here.0 here.1 c.loop-number.invariant.passes c.in_err-unit.ensures.fault)

pub loop-number-preserved : goal.loop-number-preserved
loop-number-preserved c =
    let item = c.index-inverters-number in
    let here = points_at_number c.args.inverters.now c.loop-number.number item.result c.loop-number-test.true item.is in
    rw c.in_ok-push.ensures.items (AreRatedUpTo-more (map (λ inverter. inverter.points) c.args.inverters.now) c.loop-number.number c.loop-number.units.items item.result.points c.in_ok-unit.unit c.loop-number.invariant here.0 here.1 c.in_ok-unit.ensures.fault c.in_ok-unit.ensures.unit)
