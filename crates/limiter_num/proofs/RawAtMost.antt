-- Where the greatest raw percentage of so many milliwatts lies.
use Rattle.std.proofs.Common.{◌≡◌, ℕ, suc, ◌*◌, ◌/◌, ◌^◌, ◌<◌, ◌≤◌, min, true, false, cond, leb, refl, arith, inl, inr, ℤ, pos, negsuc}
use Rattle.std.specs.Int.{div_ceil}
use Rattle.std.specs.Int.RustNames.{int_lt, unsigned_abs}
use Rattle.std.proofs.lemmas.Bool.{cases_lt, le-leb, lt-leb, ltb-true}
use Rattle.std.proofs.Math.Nat.{le-div_iff_mul-le, div-lt_iff_lt-mul, mul_comm, mul-le-mul_left}
use Rattle.std.proofs.lemmas.Grind.{div_ceil_times}
use Rattle.limiter_num.specs.Greatest.{greatest_up_to}
use Rattle.limiter_num.specs.Milliwatts.{scaled_up}
use Rattle.limiter_num.proofs.Greatest.{greatest_up_to-bounded}
use Rattle.limiter_num.proofs.Scaled.{ten_pos, div_ceil_le, le_div_ceil}

-- a product in another order
swapped : (a b c : ℕ) → a * b * c ≡ b * (a * c)
swapped a b c = omega arith

positive_product : (a b : ℕ) → 0 < a → 0 < b → 0 < a * b
positive_product a b p q = omega (arith, mul-le-mul_left a q)

pub at_most-pos : (wmax full watts n : ℕ) → 0 < wmax → greatest_up_to full (λ raw. leb (scaled_up (wmax * raw) (pos n)) watts) ≡ min (watts / (wmax * 10 ^ n)) full
unfolding scaled_up
at_most-pos wmax full watts n positive =
    let step = wmax * 10 ^ n in
    let step_pos : 0 < wmax * 10 ^ n = positive_product wmax (10 ^ n) positive (ten_pos n) in
    greatest_up_to-bounded full (watts / step) (λ raw. leb (scaled_up (wmax * raw) (pos n)) watts)
    (λ j le. le-leb (wmax * j * 10 ^ n) watts (rw (swapped wmax j (10 ^ n)) ((le-div_iff_mul-le {k = step} {x = j} {y = watts} step_pos).0 le)))
    (λ j lt. lt-leb (wmax * j * 10 ^ n) watts (rw (swapped wmax j (10 ^ n)) ((div-lt_iff_lt-mul {k = step} {x = watts} {y = j} step_pos).0 lt)))

pub at_most-negsuc : (wmax full watts n : ℕ) → 0 < wmax → greatest_up_to full (λ raw. leb (scaled_up (wmax * raw) (negsuc n)) watts) ≡ min (watts * 10 ^ suc n / wmax) full
unfolding scaled_up
at_most-negsuc wmax full watts n positive =
    let t = 10 ^ suc n in
    greatest_up_to-bounded full (watts * t / wmax) (λ raw. leb (scaled_up (wmax * raw) (negsuc n)) watts)
    (λ j le. le-leb (div_ceil (wmax * j) t) watts (div_ceil_le (wmax * j) t watts (ten_pos (suc n)) (rw (mul_comm wmax j) ((le-div_iff_mul-le {k = wmax} {x = j} {y = watts * t} positive).0 le))))
    (λ j lt. lt-leb (div_ceil (wmax * j) t) watts
    (elim (cases_lt watts (div_ceil (wmax * j) t)) [
      | inl above ↦ above
      | inr below ↦ absurd (omega (arith, le_div_ceil (wmax * j) t watts (ten_pos (suc n)) below, mul_comm wmax j, (div-lt_iff_lt-mul {k = wmax} {x = watts * t} {y = j} positive).0 lt))
    ]))

pub at_most_below : (wmax full watts tens : ℕ) (power : ℤ) → 0 < wmax → int_lt power (pos 0) ≡ true → tens ≡ 10 ^ unsigned_abs power
    → greatest_up_to full (λ raw. leb (scaled_up (wmax * raw) power) watts) ≡ min (watts * tens / wmax) full
at_most_below wmax full watts tens (pos n) positive below is = absurd (omega (arith, ltb-true n 0 below))
at_most_below wmax full watts tens (negsuc n) positive below is = rw is (at_most-negsuc wmax full watts n positive)

pub at_most_from_zero : (wmax full watts tens : ℕ) (power : ℤ) → 0 < wmax → int_lt power (pos 0) ≡ false → tens ≡ 10 ^ unsigned_abs power
    → greatest_up_to full (λ raw. leb (scaled_up (wmax * raw) power) watts) ≡ min (watts / (wmax * tens)) full
at_most_from_zero wmax full watts tens (pos n) positive above is = rw is (at_most-pos wmax full watts n positive)
at_most_from_zero wmax full watts tens (negsuc n) positive above is = absurd cc
