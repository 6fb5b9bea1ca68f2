-- The peak is the greatest sum that was held.
use Rattle.std.proofs.Common.{◌≡◌, ℕ, zero, suc, ◌≤◌, max, refl, subst, sym, arith, inl, inr}
use Rattle.std.proofs.lemmas.Bool.{cases_lt}
use Rattle.plant_simulator.specs.World.{held_in}
use Rattle.plant_simulator.specs.Summary.{plant_after, peak_after}
use Rattle.plant_simulator.specs.Peak.{IsPeak}

module _ (seed count : ℕ) where
  first_most : (other : ℕ) → other ≤ 0 → held_in (plant_after seed count other) ≤ held_in (plant_after seed count 0)
  first_most zero le = omega arith
  first_most (suc other) le = absurd (omega (arith, le))

  first : IsPeak seed count 0 (held_in (plant_after seed count 0))
  first = record { at = 0; within = omega arith; is = refl; most = first_most }

  later_most : (steps before peak : ℕ) → ((other : ℕ) → other ≤ steps → held_in (plant_after seed count other) ≤ before) → before ≤ peak → held_in (plant_after seed count (suc steps)) ≤ peak
      → (other : ℕ) → other ≤ suc steps → held_in (plant_after seed count other) ≤ peak
  later_most steps before peak most le now other within =
      elim (cases_lt other (suc steps)) [
        | inl sooner ↦ omega (arith, most other (omega (arith, sooner)), le)
        | inr last ↦ let same : other ≡ suc steps = omega (arith, last, within) in subst (λ (n : ℕ). held_in (plant_after seed count n) ≤ peak) (sym same) now
      ]

  next : (steps before : ℕ) → IsPeak seed count steps before → IsPeak seed count (suc steps) (max before (held_in (plant_after seed count (suc steps))))
  next steps before peak =
      let now = held_in (plant_after seed count (suc steps)) in
      let most = later_most steps before (max before now) peak.most (omega arith) (omega arith) in
      elim (cases_lt before now) [
        | inl higher ↦ record { at = suc steps; within = omega arith; is = omega (arith, higher); most = most }
        | inr lower ↦ record { at = peak.at; within = omega (arith, peak.within); is = omega (arith, lower, peak.is); most = most }
      ]

  pub is_peak : (steps : ℕ) → IsPeak seed count steps (peak_after seed count steps)
  unfolding peak_after
  is_peak zero = first
  is_peak (suc steps) = next steps (peak_after seed count steps) (is_peak steps)
