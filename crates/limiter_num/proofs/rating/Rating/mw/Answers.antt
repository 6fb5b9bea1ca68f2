-- The milliwatts of a rating are few.
use Rattle.std.proofs.Common.{arith, rules}
use Rattle.std.specs.Prelude.{FitsSigned}
use Rattle.std.specs.Int.{w8}
use Rattle.std.proofs.lemmas.Int.{to_z-of_z}
use Rattle.limiter_num.proofs.Scaled.{mw_fits}
use Rattle.limiter_num.proofs.rating.Rating.mw.Goals as goal

pub overflow_cast-result : goal.overflow_cast-result
overflow_cast-result c =
    let r = c.args.self.now in
    let wsf : FitsSigned w8 r.wsf = search rules in
    let psf : FitsSigned w8 r.psf = search rules in
    let milliwatts = simp to_z-of_z at c.milliwatts.ensures in
    omega (arith, milliwatts, mw_fits r.wmax c.args.raw r.wsf r.psf (omega arith) r.sound.resolves r.sound.rated_small)

pub returns-clause-below : goal.returns-clause-below
returns-clause-below c =
    let r = c.args.self.now in
    let wsf : FitsSigned w8 r.wsf = search rules in
    let psf : FitsSigned w8 r.psf = search rules in
    let milliwatts = simp to_z-of_z at c.milliwatts.ensures in
    omega (arith, milliwatts, mw_fits r.wmax c.args.raw r.wsf r.psf (omega arith) r.sound.resolves r.sound.rated_small)
