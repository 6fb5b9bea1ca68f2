-- Milliwatts of a raw percentage, by the points WMax, W_SF and WMaxLimPct_SF.
use Rattle.std.specs.Prelude.{◌≡◌, ℕ, ◌+◌, ◌*◌, ◌^◌, ◌<◌, ◌≤◌, Bool, nat_le, nat_lt, ◌==◌, ◌||◌}
use Rattle.std.specs.Prelude.{if◌then◌else◌, Option, Some, None, ℤ, pos, negsuc, ◌+ℤ◌, ◌≤ℤ◌}
use Rattle.std.proofs.Common.{suc}
use Rattle.std.specs.Int.{div_ceil}
use Rattle.limiter_num.specs.Greatest.{greatest_up_to}

-- a number times ten to a power, rounded up
unfoldable pub scaled_up : ℕ → ℤ → ℕ
scaled_up x (pos n) = x * 10 ^ n
scaled_up x (negsuc n) = div_ceil x (10 ^ suc n)

-- the power of ten that turns WMax times a raw percentage into milliwatts
abbrev pub power_of : ℤ → ℤ → ℤ
power_of wsf psf = wsf +ℤ psf +ℤ pos 1

-- the limit in milliwatts that a raw percentage stands for
unfoldable pub mw_of : ℕ → ℤ → ℤ → ℕ → ℕ
mw_of wmax wsf psf raw = scaled_up (wmax * raw) (power_of wsf psf)

-- whether a raw percentage is at most 100 percent
unfoldable pub is_within_full : ℤ → ℕ → Bool
is_within_full (pos n) raw = nat_le (raw * 10 ^ n) 100
is_within_full (negsuc n) raw = nat_le raw (100 * 10 ^ suc n)

-- the greatest raw percentage from 0 to 65534 that is at most 100 percent
unfoldable pub full_of : ℤ → ℕ
full_of psf = greatest_up_to 65534 (is_within_full psf)

-- what is true of the points of every rating
pub record IsRated (wmax : ℕ) (wsf psf : ℤ) : Type 0 where
  pub implemented : wmax < 65535
  pub positive : 0 < wmax
  pub wsf_low : negsuc 9 ≤ℤ wsf
  pub wsf_high : wsf ≤ℤ pos 10
  pub psf_low : negsuc 9 ≤ℤ psf
  pub psf_high : psf ≤ℤ pos 10
  pub resolves : 0 < full_of psf
  pub rated_small : mw_of wmax wsf psf (full_of psf) ≤ 10 ^ 12
