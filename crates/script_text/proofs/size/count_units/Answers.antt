use Rattle.std.proofs.Common.{◌<◌, ◌^◌, length, ◌∷◌, [], ◌++◌, ◌∙◌, refl, arith}
use Rattle.std.proofs.lemmas.Result.{err_from_is_err_and}
use Rattle.script_text.proofs.Taken.{units_on, units_begun, units_fault}
use Rattle.script_text.proofs.Counted.{counted_none, below_64}
use Rattle.script_text.proofs.size.count_units.Goals as goal

pub loop-line-init : goal.loop-line-init
loop-line-init c = record { few = c.requires; whole = refl; count = omega arith; cap = refl; units = []; counted = counted_none c.args.cap; is_at = λ site none at. at }

pub returns-in_err-line : goal.returns-in_err-line
returns-in_err-line c =
    let p = err_from_is_err_and c.from_residual.result c.from_residual.ensures.1 in
    rw (p.1, p.2) (units_fault c.args.rows c.loop-line.rows c.loop-line.invariant.units _ c.in_err-line.ensures c.loop-line.invariant.whole c.loop-line.invariant.is_at)

pub with_unit-size-requires-clause-below : goal.with_unit-size-requires-clause-below
with_unit-size-requires-clause-below c = below_64 c.loop-line.invariant.units c.loop-line.size c.loop-line.invariant.counted

pub returns-in-Begin : goal.returns-in-Begin
returns-in-Begin c =
    let taken = rw c.in-Begin.is at c.in_ok-line.ensures in
    let i = c.loop-line.invariant in
    let few : length i.units < 2 ^ 32 = omega (arith, i.few, i.count, i.counted.inverters_are) in
    (record { units = i.units; counted = i.counted; taken = units_begun c.args.rows c.loop-line.rows c.in_ok-line.behind i.units c.in-Begin.start taken i.whole few i.is_at }, i.cap)

pub loop-line-preserved : goal.loop-line-preserved
loop-line-preserved c =
    let taken = rw c.in-Inverter.is at c.in_ok-line.ensures in
    let i = c.loop-line.invariant in
    record {
      few = taken.further.few;
      whole = taken.further.whole ∙ i.whole;
      count = omega (arith, i.count, taken.further.number, c.with_unit-size.ensures.inverters);
      cap = c.with_unit-size.ensures.cap ∙ i.cap;
      units = i.units ++ c.in-Inverter.unit ∷ [];
      counted = c.with_unit-size.ensures.counted i.units i.counted;
      is_at = units_on c.args.rows c.loop-line.rows c.in_ok-line.behind i.units (i.units ++ c.in-Inverter.unit ∷ []) c.in-Inverter.unit refl taken i.is_at;
    }
