-- The milliwatts of the greatest raw percentage are few, also before they are judged.
use Rattle.std.proofs.Common.{arith, ◌≡◌, ap, ◌∙◌}
use Rattle.std.specs.Prelude.{FitsSigned}
use Rattle.std.specs.Int.{w8}
use Rattle.std.proofs.lemmas.Int.{to_z-of_z}
use Rattle.limiter_num.specs.Milliwatts.{mw_of, full_of}
use Rattle.limiter_num.proofs.Scaled.{rated_fits}
use Rattle.limiter_num.proofs.rating.rated.Goals as goal

pub overflow_cast-result : goal.overflow_cast-result
overflow_cast-result c =
    let a = c.args in
    let wsf : FitsSigned w8 a.wsf = c.ranges.wsf in
    let psf : FitsSigned w8 a.psf = c.ranges.psf in
    let full = simp to_z-of_z at c.full.ensures in
    let milliwatts = simp to_z-of_z at c.milliwatts.ensures in
    let value : c.milliwatts.result ≡ mw_of a.wmax a.wsf a.psf (full_of a.psf) = milliwatts ∙ ap (mw_of a.wmax a.wsf a.psf) full in
    omega (arith, value, rated_fits a.wmax a.wsf a.psf (omega arith) c.requires.wsf_high c.requires.psf_low)
