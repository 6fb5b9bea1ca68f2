-- Where the milliwatts of each raw percentage are as many times those of one.
use Rattle.std.proofs.Common.{◌≡◌, ℕ, ◌*◌, ◌^◌, ◌<◌, ◌≤◌, sym, ap, ◌∙◌, arith, ℤ, pos, negsuc, false}
use Rattle.std.specs.Int.RustNames.{int_lt}
use Rattle.std.proofs.Math.Nat.{mul_comm, mul_assoc}
use Rattle.limiter_num.specs.declared.rating.Rating.{Rating}
use Rattle.limiter_num.specs.Rating.{mw}
use Rattle.limiter_num.specs.Milliwatts.{scaled_up, power_of, mw_of}
use Rattle.limiter_num.proofs.Scaled.{mw_fits}
use Rattle.plant_ledger.specs.Account.{IsStep}

scaled_up-step : (wmax raw : ℕ) (power : ℤ) → int_lt power (pos 0) ≡ false → scaled_up (wmax * raw) power ≡ raw * scaled_up (wmax * 1) power
unfolding scaled_up
scaled_up-step wmax raw (pos n) low =
    ap (λ (k : ℕ). k * 10 ^ n) (mul_comm wmax raw) ∙ mul_assoc raw wmax (10 ^ n)
    ∙ ap (λ (k : ℕ). raw * (k * 10 ^ n)) (let one : wmax ≡ wmax * 1 = omega arith in one)
scaled_up-step wmax raw (negsuc n) low = absurd cc

pub step_is : (rating : Rating) (step : ℕ) → int_lt (power_of rating.wsf rating.psf) (pos 0) ≡ false → step ≡ mw rating 1 → IsStep rating step
unfolding mw_of
step_is rating step low is = λ raw. scaled_up-step rating.wmax raw (power_of rating.wsf rating.psf) low ∙ ap (λ (k : ℕ). raw * k) (sym is)

-- the milliwatts of a raw percentage are few
pub mw_low : (rating : Rating) (raw : ℕ) → raw < 2 ^ 16 → mw rating raw ≤ 65535 * 10 ^ 12
mw_low rating raw small = mw_fits rating.wmax raw rating.wsf rating.psf small rating.sound.resolves rating.sound.rated_small
