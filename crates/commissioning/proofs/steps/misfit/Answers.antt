use Rattle.std.proofs.Common.{rules, ◌≡◌, Option, w8, w16, w64, ℤ, pos, to_z, of_z, ◌∙◌, refl}
use Rattle.std.proofs.lemmas.Int.{to_z-of_z}
use mir.Val.{SFits}
use Rattle.limiter_num.specs.declared.rating.Point.{Point}
use Rattle.limiter_num.specs.declared.rating.Point.TheVariants as point
use Rattle.commissioning.specs.declared.fault.CommissionFault.{CommissionFault}
use Rattle.commissioning.specs.Replies.{unlike}
use Rattle.commissioning.proofs.steps.misfit.Goals as goal

-- a comparison of numbers that were made wider, which leaves them as they are
wider : (at : Point) (result : Option CommissionFault) (x y x' y' : ℤ) → SFits w64 x → SFits w64 y → x ≡ x' → y ≡ y'
    → result ≡ unlike at (to_z w64 (of_z w64 x)) (to_z w64 (of_z w64 y)) → result ≡ unlike at x' y'
wider at result x y x' y' fits fits' e e' is =
    let first : to_z w64 (of_z w64 x) ≡ x = to_z-of_z w64 x fits in
    let second : to_z w64 (of_z w64 y) ≡ y = to_z-of_z w64 y fits' in
    is ∙ rw (first, second, e, e') refl

pub returns : goal.returns
returns c =
    let rating = c.args.unit.now.rating in
    let found = c.args.found.now in
    let wsf : SFits w8 rating.wsf = search rules in
    let psf : SFits w8 rating.psf = search rules in
    let wsf' : SFits w16 found.wsf = search rules in
    let psf' : SFits w16 found.psf = search rules in
    let base : c.unlike.result ≡ unlike point.Base (pos c.port.inside.base) (pos found.base) =
    wider point.Base c.unlike.result c.into.result c.into-2.result _ _ (search rules) (search rules) c.into.ensures c.into-2.ensures c.unlike.ensures in
    let wmax : c.unlike-2.result ≡ unlike point.WMax (pos rating.wmax) (pos found.wmax) =
    wider point.WMax c.unlike-2.result c.into-3.result c.into-4.result _ _ (search rules) (search rules) c.into-3.ensures c.into-4.ensures c.unlike-2.ensures in
    let w_sf : c.unlike-3.result ≡ unlike point.WSf rating.wsf found.wsf =
    wider point.WSf c.unlike-3.result c.into-5.result c.into-6.result _ _ (search rules) (search rules)
    (c.into-5.ensures ∙ to_z-of_z w8 rating.wsf wsf) (c.into-6.ensures ∙ to_z-of_z w16 found.wsf wsf') c.unlike-3.ensures in
    let p_sf : c.unlike-4.result ≡ unlike point.PctSf rating.psf found.psf =
    wider point.PctSf c.unlike-4.result c.into-7.result c.into-8.result _ _ (search rules) (search rules)
    (c.into-7.ensures ∙ to_z-of_z w8 rating.psf psf) (c.into-8.ensures ∙ to_z-of_z w16 found.psf psf') c.unlike-4.ensures in
    c.or-3.ensures ∙ rw (c.or-2.ensures, c.or.ensures, base, wmax, w_sf, p_sf, ← c.port.view_is) refl
