-- Bounds on numbers that are scaled by a power of ten, and where the greatest raw percentages lie.
use Rattle.std.proofs.Common.{◌≡◌, ℕ, zero, suc, ◌+◌, ◌-◌, ◌*◌, ◌/◌, ◌%◌, ◌^◌, ◌<◌, ◌≤◌, min, Bool, true, false, cond, ltb, leb, refl, sym, ap, ◌∙◌, arith, inl, inr, ℤ, pos, negsuc, ◌+ℤ◌, ◌≤ℤ◌}
use Rattle.std.specs.Int.{div_ceil}
use Rattle.std.specs.Int.RustNames.{int_lt, unsigned_abs}
use Rattle.std.proofs.lemmas.Grind.{div_ceil_times}
use Rattle.std.proofs.lemmas.Bool.{cases_lt, le-leb, lt-leb, ltb-true}
use Rattle.std.proofs.lemmas.Nat.{pow-add}
use Rattle.std.proofs.lemmas.Int.{ints}
use Rattle.std.proofs.Math.Nat.{one-le-pow, pow-le-pow_right, le-div_iff_mul-le, div-lt_iff_lt-mul, mul-le-mul_left, mul-le-mul_right, mul_comm, mul_assoc}
use Rattle.limiter_num.specs.Greatest.{greatest_up_to}
use Rattle.limiter_num.specs.Milliwatts.{scaled_up, power_of, mw_of, is_within_full, full_of}
use Rattle.limiter_num.proofs.Greatest.{greatest_up_to-bounded}

pub ten_pos : (k : ℕ) → 0 < 10 ^ k
ten_pos k = one-le-pow k 10 (omega arith)

-- a quotient that is rounded up is at most x exactly where x times the divisor is enough
pub div_ceil_le : (a t x : ℕ) → 0 < t → a ≤ x * t → div_ceil a t ≤ x
div_ceil_le a t x h le =
    elim (cases_lt x (div_ceil a t)) [
      | inl lt ↦ absurd (omega (arith, (div_ceil_times a t h).1, mul-le-mul_right t lt))
      | inr done ↦ done
    ]

pub le_div_ceil : (a t x : ℕ) → 0 < t → div_ceil a t ≤ x → a ≤ x * t
le_div_ceil a t x h le = omega (arith, (div_ceil_times a t h).0, mul-le-mul_right t le)

-- a number that is scaled by less is no greater
pub scaled_up_le : (x k : ℕ) (power : ℤ) → power ≤ℤ pos k → scaled_up x power ≤ x * 10 ^ k
unfolding scaled_up
scaled_up_le x k (pos n) le = mul-le-mul_left x (pow-le-pow_right {n = 10} (omega arith) (omega (arith, ints)))
scaled_up_le x k (negsuc n) le = div_ceil_le x (10 ^ suc n) (x * 10 ^ k) (ten_pos (suc n)) (omega (arith, mul-le-mul_left (x * 10 ^ k) (ten_pos (suc n)), mul-le-mul_left x (ten_pos k)))

-- n times as much is at most n times as much
pub scaled_up_times : (n x : ℕ) (y : ℕ) (power : ℤ) → y ≤ n * x → scaled_up y power ≤ n * scaled_up x power
unfolding scaled_up
scaled_up_times n x y (pos k) le = omega (arith, mul-le-mul_right (10 ^ k) le, mul_assoc n x (10 ^ k))
scaled_up_times n x y (negsuc k) le =
    let t = 10 ^ suc k in
    div_ceil_le y t (n * div_ceil x t) (ten_pos (suc k))
    (omega (arith, le, mul-le-mul_left n ((div_ceil_times x t (ten_pos (suc k))).0), mul_assoc n (div_ceil x t) t))

pub full-pos : (n : ℕ) → full_of (pos n) ≡ min (100 / 10 ^ n) 65534
unfolding full_of is_within_full
full-pos n = greatest_up_to-bounded 65534 (100 / 10 ^ n) (is_within_full (pos n))
    (λ j le. le-leb (j * 10 ^ n) 100 ((le-div_iff_mul-le {k = 10 ^ n} {x = j} {y = 100} (ten_pos n)).0 le))
    (λ j lt. lt-leb (j * 10 ^ n) 100 ((div-lt_iff_lt-mul {k = 10 ^ n} {x = 100} {y = j} (ten_pos n)).0 lt))

pub full-negsuc : (n : ℕ) → full_of (negsuc n) ≡ min (100 * 10 ^ suc n) 65534
unfolding full_of is_within_full
full-negsuc n = greatest_up_to-bounded 65534 (100 * 10 ^ suc n) (is_within_full (negsuc n))
    (λ j le. le-leb j (100 * 10 ^ suc n) le)
    (λ j lt. lt-leb j (100 * 10 ^ suc n) lt)

-- the two ways in which the greatest raw percentage is computed
pub full_below : (psf : ℤ) (tens : ℕ) → int_lt psf (pos 0) ≡ true → tens ≡ 10 ^ unsigned_abs psf → full_of psf ≡ min (100 * tens) 65534
full_below (pos n) tens below is = absurd (omega (arith, ltb-true n 0 below))
full_below (negsuc n) tens below is = rw is (full-negsuc n)

pub full_from_zero : (psf : ℤ) (tens : ℕ) → int_lt psf (pos 0) ≡ false → tens ≡ 10 ^ unsigned_abs psf → full_of psf ≡ min (100 / tens) 65534
full_from_zero (pos n) tens above is = rw is (full-pos n)
full_from_zero (negsuc n) tens above is = absurd cc

-- a number whose product with a power of ten is small stays small when wmax comes to it
scaled_small : (wmax full k : ℕ) (power : ℤ) → wmax < 2 ^ 16 → full * 10 ^ k ≤ 10 ^ 13 → power ≤ℤ pos k → scaled_up (wmax * full) power < 2 ^ 64
scaled_small wmax full k power small le high =
    omega (arith, scaled_up_le (wmax * full) k power high, mul_assoc wmax full (10 ^ k), mul-le-mul_left wmax le, small)

-- the milliwatts of a rating fit 64 bits, also where they are too many
pub rated_fits : (wmax : ℕ) (wsf psf : ℤ) → wmax < 2 ^ 16 → wsf ≤ℤ pos 10 → negsuc 9 ≤ℤ psf → mw_of wmax wsf psf (full_of psf) < 2 ^ 64
unfolding mw_of
rated_fits wmax wsf (pos n) small high low =
    let le : full_of (pos n) ≤ 100 / 10 ^ n = rw full-pos (omega arith) in
    let few : full_of (pos n) * 10 ^ n ≤ 100 = omega (arith, (le-div_iff_mul-le {k = 10 ^ n} {x = full_of (pos n)} {y = 100} (ten_pos n)).0 le) in
    let parts : full_of (pos n) * 10 ^ (n + 11) ≡ full_of (pos n) * 10 ^ n * 10 ^ 11 = rw (pow-add 10 n 11) (sym (mul_assoc (full_of (pos n)) (10 ^ n) (10 ^ 11))) in
    scaled_small wmax (full_of (pos n)) (n + 11) (power_of wsf (pos n)) small (omega (arith, parts, few)) (omega (arith, ints))
rated_fits wmax wsf (negsuc n) small high low =
    let le : full_of (negsuc n) ≤ 100 * 10 ^ suc n = rw full-negsuc (omega arith) in
    let below : n ≤ 10 = omega (arith, ints) in
    let all : suc n + (10 - n) ≡ 11 = omega arith in
    let joined : 10 ^ suc n * 10 ^ (10 - n) ≡ 10 ^ 11 = sym (pow-add 10 (suc n) (10 - n)) ∙ ap (λ (k : ℕ). 10 ^ k) all in
    let few : full_of (negsuc n) * 10 ^ (10 - n) ≤ 10 ^ 13 = omega (arith, mul-le-mul_right (10 ^ (10 - n)) le, mul_assoc 100 (10 ^ suc n) (10 ^ (10 - n)), joined) in
    scaled_small wmax (full_of (negsuc n)) (10 - n) (power_of wsf (negsuc n)) small few (omega (arith, ints))

-- the milliwatts of any raw percentage of a rating fit 64 bits
pub mw_fits : (wmax raw : ℕ) (wsf psf : ℤ) → raw < 2 ^ 16 → 0 < full_of psf → mw_of wmax wsf psf (full_of psf) ≤ 10 ^ 12 → mw_of wmax wsf psf raw ≤ 65535 * 10 ^ 12
unfolding mw_of
mw_fits wmax raw wsf psf small positive rated =
    let few : raw ≤ 65535 * full_of psf = omega arith in
    let le : wmax * raw ≤ 65535 * (wmax * full_of psf) = omega (arith, mul-le-mul_left wmax few, mul_assoc wmax 65535 (full_of psf), mul_comm wmax 65535, mul_assoc 65535 wmax (full_of psf)) in
    omega (arith, scaled_up_times 65535 (wmax * full_of psf) (wmax * raw) (power_of wsf psf) le, rated)
