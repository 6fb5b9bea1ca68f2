use Rattle.std.proofs.Common.{◌≡◌, ◌<◌, ◌^◌, length, ◌∷◌, [], ◌++◌, ◌∙◌, rules}
use Rattle.std.proofs.lemmas.Result.{err_from_is_err_and}
use Rattle.script_text.proofs.Taken.{units_on, units_begun, units_fault, bad_explains}
use Rattle.script_text.proofs.script.read_units.Goals as goal

pub returns-in_err-line : goal.returns-in_err-line
returns-in_err-line c =
    let p = err_from_is_err_and c.from_residual.result c.from_residual.ensures.1 in
    rw (p.1, p.2) (λ site none at. bad_explains _ _ (units_fault c.args.rows c.loop-units.rows c.loop-units.units.items _ c.in_err-line.ensures c.loop-units.invariant.whole c.loop-units.invariant.is_at site none at))

pub returns-in-Begin : goal.returns-in-Begin
returns-in-Begin c =
    let taken = rw c.in-Begin.is at c.in_ok-line.ensures in
    let few : length c.loop-units.units.items < 2 ^ 32 = search rules in
    units_begun c.args.rows c.loop-units.rows c.in_ok-line.behind c.loop-units.units.items c.in-Begin.start taken c.loop-units.invariant.whole few c.loop-units.invariant.is_at

pub loop-units-preserved : goal.loop-units-preserved
loop-units-preserved c =
    let taken = rw c.in-Inverter.is at c.in_ok-line.ensures in
    let items : c.push.new.self.items ≡ c.loop-units.units.items ++ c.in-Inverter.unit ∷ [] = search rules in
    record {
      few = taken.further.few;
      whole = taken.further.whole ∙ c.loop-units.invariant.whole;
      count = search rules;
      is_at = units_on c.args.rows c.loop-units.rows c.in_ok-line.behind c.loop-units.units.items c.push.new.self.items c.in-Inverter.unit items taken c.loop-units.invariant.is_at;
    }
