-- What the level of claims is.
use Rattle.std.proofs.Common.{◌≡◌, ℕ, zero, suc, ◌+◌, ◌<◌, ◌≤◌, leb, Bool, true, false, List, map, refl, sym, ap, ◌∙◌, arith, inl, inr}
use Rattle.std.specs.Prelude.{sum_by, IsPermutation}
use Rattle.std.specs.List.{range_with_len}
use Rattle.std.proofs.lemmas.List.Sorted.{sum_by-IsPermutation}
use Rattle.std.proofs.lemmas.Bool.{le-leb, lt-leb, leb-false, leb-true, cases_Bool, cases_lt}
use Rattle.share_policy.specs.declared.claim.Claim.{Claim}
use Rattle.share_policy.specs.Shares.{share_at, level_of}
use Rattle.share_policy.proofs.Greatest.{greatest_up_to-same, greatest_up_to-le, greatest_up_to-most, greatest_up_to-passes}
use Rattle.limiter_num.specs.Greatest.{greatest_up_to}
use Rattle.share_policy.proofs.Totals.{shares_mono}

-- where the shares at a level fit under the cap, the level is at most the greatest, and where they don't it is above it
pub level_of-reached : (cap level : ℕ) (claims : List Claim) → sum_by (share_at 0) claims ≤ cap → level ≤ cap
    → leb (sum_by (share_at level) claims) cap ≡ leb level (level_of cap claims)
unfolding level_of
level_of-reached cap level claims first within =
    let test = fits_at cap claims in
    let most = greatest_up_to cap test in
    elim (cases_Bool (leb (sum_by (share_at level) claims) cap)) [
      | inl fits ↦ fits ∙ sym (le-leb level most (greatest_up_to-most cap level test within fits))
      | inr fails ↦ fails ∙ sym (lt-leb level most (above fails (greatest_up_to-passes cap test (le-leb (sum_by (share_at 0) claims) cap first))))
    ]
  where
    fits_at : ℕ → List Claim → ℕ → Bool
    fits_at most its k = leb (sum_by (share_at k) its) most

    above : {most : ℕ} → leb (sum_by (share_at level) claims) cap ≡ false → leb (sum_by (share_at most) claims) cap ≡ true → most < level
    above {most} fails fits =
        elim (cases_lt most level) [
          | inl lt ↦ lt
          | inr le ↦ absurd (omega (arith, leb-false (sum_by (share_at level) claims) cap fails, leb-true (sum_by (share_at most) claims) cap fits, shares_mono level most le claims))
        ]

-- no level beyond the cap is reached
pub level_of-beyond : (cap level : ℕ) (claims : List Claim) → cap < level → leb level (level_of cap claims) ≡ false
unfolding level_of
level_of-beyond cap level claims beyond =
    lt-leb level (greatest_up_to cap (λ k. leb (sum_by (share_at k) claims) cap)) (omega (arith, beyond, greatest_up_to-le cap (λ k. leb (sum_by (share_at k) claims) cap)))

-- claims in another order have the same level
pub level_of-order : (cap : ℕ) (claims others : List Claim) → IsPermutation claims others → level_of cap claims ≡ level_of cap others
unfolding level_of
level_of-order cap claims others is =
    greatest_up_to-same cap (λ level. leb (sum_by (share_at level) claims) cap) (λ level. leb (sum_by (share_at level) others) cap)
    (λ level. ap (λ (total : ℕ). leb total cap) (sym (sum_by-IsPermutation (share_at level) claims others is)))

map-range_same : (first count : ℕ) (claim other : ℕ → Claim) → ((number : ℕ) → number < first + count → claim number ≡ other number)
    → map claim (range_with_len first count) ≡ map other (range_with_len first count)
map-range_same first zero claim other same = refl
map-range_same first (suc count) claim other same =
    rw (same first (omega arith), map-range_same (first + 1) count claim other (λ number below. same number (omega arith))) refl

-- claims that are the same one by one have the same level
pub level_of-each : (cap count : ℕ) (claim other : ℕ → Claim) → ((number : ℕ) → number < count → claim number ≡ other number)
    → level_of cap (map claim (range_with_len 0 count)) ≡ level_of cap (map other (range_with_len 0 count))
level_of-each cap count claim other same = ap (level_of cap) (map-range_same 0 count claim other (λ number below. same number (omega arith)))

-- the level is at most the cap
pub level_of-le : (cap : ℕ) (claims : List Claim) → level_of cap claims ≤ cap
unfolding level_of
level_of-le cap claims = greatest_up_to-le cap (λ k. leb (sum_by (share_at k) claims) cap)

-- the shares at the level fit under the cap
pub level_of-within : (cap : ℕ) (claims : List Claim) → sum_by (share_at 0) claims ≤ cap → sum_by (share_at (level_of cap claims)) claims ≤ cap
level_of-within cap claims first =
    let most = level_of cap claims in
    leb-true (sum_by (share_at most) claims) cap (level_of-reached cap most claims first (level_of-le cap claims) ∙ le-leb most most (omega arith))

-- those a milliwatt above it don't
pub level_of-tight : (cap : ℕ) (claims : List Claim) → sum_by (share_at 0) claims ≤ cap → level_of cap claims < cap
    → cap < sum_by (share_at (level_of cap claims + 1)) claims
level_of-tight cap claims first below =
    let most = level_of cap claims in
    leb-false (sum_by (share_at (most + 1)) claims) cap (level_of-reached cap (most + 1) claims first (omega arith) ∙ lt-leb (most + 1) most (omega arith))
