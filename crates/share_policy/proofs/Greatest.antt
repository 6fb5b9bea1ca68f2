-- The greatest number of a range that passes a test.
use Rattle.std.proofs.Common.{◌≡◌, ℕ, zero, suc, ◌≤◌, Bool, true, false, refl, sym, ap, ◌∙◌, arith, inl, inr}
use Rattle.std.proofs.lemmas.Bool.{cases_eq, cases_Bool}
use Rattle.limiter_num.specs.Greatest.{greatest_up_to}

-- tests that agree have the same greatest number
pub greatest_up_to-same : (n : ℕ) (test other : ℕ → Bool) → ((j : ℕ) → test j ≡ other j) → greatest_up_to n test ≡ greatest_up_to n other
unfolding greatest_up_to
greatest_up_to-same zero test other same = refl
greatest_up_to-same (suc n) test other same = rw (same (suc n), greatest_up_to-same n test other same) refl

-- the greatest number is of the range
pub greatest_up_to-le : (n : ℕ) (test : ℕ → Bool) → greatest_up_to n test ≤ n
unfolding greatest_up_to
greatest_up_to-le zero test = omega arith
greatest_up_to-le (suc n) test =
    elim (cases_Bool (test (suc n))) [
      | inl passes ↦ rw passes (omega arith)
      | inr fails ↦ rw fails (omega (arith, greatest_up_to-le n test))
    ]

-- no number of the range that passes is above it
pub greatest_up_to-most : (n k : ℕ) (test : ℕ → Bool) → k ≤ n → test k ≡ true → k ≤ greatest_up_to n test
unfolding greatest_up_to
greatest_up_to-most zero k test within is = omega (arith, within)
greatest_up_to-most (suc n) k test within is =
    elim (cases_Bool (test (suc n))) [
      | inl passes ↦ rw passes within
      | inr fails ↦ rw fails (elim (cases_eq k (suc n)) [
        | inl last ↦ absurd (let both : true ≡ false = sym is ∙ ap test last ∙ fails in cc)
        | inr other ↦ greatest_up_to-most n k test (omega arith) is
      ])
    ]

-- and it passes where 0 does
pub greatest_up_to-passes : (n : ℕ) (test : ℕ → Bool) → test 0 ≡ true → test (greatest_up_to n test) ≡ true
unfolding greatest_up_to
greatest_up_to-passes zero test first = first
greatest_up_to-passes (suc n) test first =
    elim (cases_Bool (test (suc n))) [
      | inl passes ↦ rw passes passes
      | inr fails ↦ rw fails (greatest_up_to-passes n test first)
    ]
