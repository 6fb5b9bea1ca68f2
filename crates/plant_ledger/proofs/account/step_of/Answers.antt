use Rattle.std.proofs.Common.{◌≡◌, ℤ, pos, false, subst}
use Rattle.std.specs.Int.RustNames.{int_lt}
use Rattle.std.specs.Prelude.{FitsSigned}
use Rattle.std.specs.Int.{w32}
use Rattle.std.proofs.lemmas.Int.{to_z-of_z}
use Rattle.plant_ledger.proofs.Steps.{step_is}
use Rattle.plant_ledger.proofs.account.step_of.Goals as goal

pub returns : goal.returns
returns c =
    let power : FitsSigned w32 c.power.result = record { sfits = c.power.type_inv } in
    let above = simp to_z-of_z at c.if-power-lt0.false in
    step_is c.args.rating.now c.mw.result (subst (λ (z : ℤ). int_lt z (pos 0) ≡ false) c.power.ensures above) c.mw.ensures.watts
