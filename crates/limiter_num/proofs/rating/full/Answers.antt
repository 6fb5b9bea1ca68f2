-- On each side of zero the quotient or product is the greatest raw percentage.
use Rattle.std.proofs.Common.{◌≡◌, ◌∙◌, ◌^◌, ℤ, sym, ap}
use Rattle.std.specs.Int.RustNames.{unsigned_abs}
use Rattle.std.specs.Prelude.{FitsSigned}
use Rattle.std.specs.Int.{w8, w32}
use Rattle.std.proofs.lemmas.Int.{to_z-of_z}
use Rattle.limiter_num.proofs.Scaled.{full_below, full_from_zero}
use Rattle.limiter_num.proofs.rating.full.Goals as goal

pub returns-then-psf-lt0 : goal.returns-then-psf-lt0
returns-then-psf-lt0 c =
    let psf : FitsSigned w8 c.args.psf = c.ranges.psf in
    let from : FitsSigned w32 c.from.result = record { sfits = c.from.type_inv } in
    let below = simp to_z-of_z at c.if-psf-lt0.true in
    let same : c.from.result ≡ c.args.psf = c.from.ensures ∙ to_z-of_z w8 c.args.psf psf in
    let tens = c.tens-tens.ensures.value ∙ ap (λ (z : ℤ). 10 ^ unsigned_abs z) (to_z-of_z w32 c.from.result from ∙ same) in
    c.min.ensures ∙ sym (full_below c.args.psf c.tens-tens.result below tens)

pub returns : goal.returns
returns c =
    let psf : FitsSigned w8 c.args.psf = c.ranges.psf in
    let from : FitsSigned w32 c.from.result = record { sfits = c.from.type_inv } in
    let above = simp to_z-of_z at c.if-psf-lt0.false in
    let same : c.from.result ≡ c.args.psf = c.from.ensures ∙ to_z-of_z w8 c.args.psf psf in
    let tens = c.tens-tens.ensures.value ∙ ap (λ (z : ℤ). 10 ^ unsigned_abs z) (to_z-of_z w32 c.from.result from ∙ same) in
    c.min-2.ensures ∙ sym (full_from_zero c.args.psf c.tens-tens.result above tens)
