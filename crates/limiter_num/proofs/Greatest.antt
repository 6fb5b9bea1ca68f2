-- A test that passes up to a bound and not beyond it has its greatest number there.
use Rattle.std.proofs.Common.{◌≡◌, ℕ, zero, suc, ◌+◌, ◌<◌, ◌≤◌, min, Bool, true, false, cond, refl, sym, ap, ◌∙◌, arith, inl, inr}
use Rattle.std.proofs.lemmas.Bool.{cases_lt}
use Rattle.limiter_num.specs.Greatest.{greatest_up_to}

pub greatest_up_to-bounded : (n most : ℕ) (test : ℕ → Bool) → ((j : ℕ) → j ≤ most → test j ≡ true) → ((j : ℕ) → most < j → test j ≡ false) → greatest_up_to n test ≡ min most n
unfolding greatest_up_to
greatest_up_to-bounded zero most test passes fails = omega arith
greatest_up_to-bounded (suc n) most test passes fails =
    elim (cases_lt most (suc n)) [
      | inl lt ↦ rw (fails (suc n) lt) (greatest_up_to-bounded n most test passes fails ∙ omega arith)
      | inr le ↦ rw (passes (suc n) le) (omega arith)
    ]
