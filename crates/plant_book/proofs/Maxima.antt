-- Greatest values over filtered lists, and sums over inverters.
use Rattle.std.proofs.Common.{◌≡◌, ℕ, zero, suc, ◌+◌, ◌<◌, ◌≤◌, max, Bool, true, List, [], ◌∷◌, ◌++◌, ap, ◌∙◌, map, arith, inl, inr}
use Rattle.std.specs.Prelude.{filter, fold, Contains}
use Rattle.std.proofs.lemmas.List.Elements.{Contains-push_cases, Contains-append_cases}
use Rattle.std.proofs.lemmas.Bool.{cases_Bool, cases_eq}
use Rattle.std.proofs.lemmas.List.{map-append}
use Rattle.std.proofs.lemmas.List.Sums.{fold-append}
use Rattle.plant_book.specs.Sums.{sum_below}

-- the element of a list of one
pub only_element : {X : Type 0} (y x : X) → Contains (y ∷ []) x → y ≡ x
only_element y x within =
    elim (Contains-push_cases [] y x within) [ inl never ↦ absurd (omega (arith, never.1)) | inr is ↦ is ]

module _ {X : Type 0} (f : X → ℕ) where
  -- the greatest is no less than what it begins with
  pub fold_max_from : (d : ℕ) (xs : List X) → d ≤ fold max d (map f xs)
  fold_max_from d [] = omega arith
  fold_max_from d (x ∷ xs) = omega (arith, fold_max_from (max d (f x)) xs)

  -- fewer values have no greater greatest
  pub fold_max_filter : (p q : X → Bool) → ((x : X) → p x ≡ true → q x ≡ true) → (d e : ℕ) (xs : List X) → d ≤ e → fold max d (map f (filter p xs)) ≤ fold max e (map f (filter q xs))
  fold_max_filter p q implies d e [] le = le
  fold_max_filter p q implies d e (x ∷ xs) le =
      elim (cases_Bool (p x)) [
        | inl passes ↦ rw (passes, implies x passes) (fold_max_filter p q implies (max d (f x)) (max e (f x)) xs (omega arith))
        | inr fails ↦ elim (cases_Bool (q x)) [
          | inl more ↦ rw (fails, more) (fold_max_filter p q implies d (max e (f x)) xs (omega arith))
          | inr same ↦ rw (fails, same) (fold_max_filter p q implies d e xs le)
        ]
      ]

  -- values that are left out before a filter raise nothing either
  pub fold_max_filtered : (p q : X → Bool) (d e : ℕ) (xs : List X) → d ≤ e → fold max d (map f (filter q (filter p xs))) ≤ fold max e (map f (filter q xs))
  fold_max_filtered p q d e [] le = le
  fold_max_filtered p q d e (x ∷ xs) le =
      elim (cases_Bool (p x)) [
        | inl stays ↦ elim (cases_Bool (q x)) [
          | inl passes ↦ rw (stays, passes) (fold_max_filtered p q (max d (f x)) (max e (f x)) xs (omega arith))
          | inr fails ↦ rw (stays, fails) (fold_max_filtered p q d e xs le)
        ]
        | inr goes ↦ elim (cases_Bool (q x)) [
          | inl passes ↦ rw (goes, passes) (fold_max_filtered p q d (max e (f x)) xs (omega arith))
          | inr fails ↦ rw (goes, fails) (fold_max_filtered p q d e xs le)
        ]
      ]

  -- a value that passes is no greater than the greatest that does
  pub le_fold_max : (p : X → Bool) (d : ℕ) (xs : List X) (x : X) → Contains xs x → p x ≡ true → f x ≤ fold max d (map f (filter p xs))
  le_fold_max p d [] x within passes = absurd (omega (arith, within.1))
  le_fold_max p d (y ∷ xs) x within passes =
      elim (Contains-append_cases (y ∷ []) xs x within) [
        | inl here ↦
            let same : y ≡ x = only_element y x here in
            let first : p y ≡ true = rw same passes in
            rw first (omega (arith, ap f same, fold_max_from (max d (f y)) (filter p xs)))
        | inr later ↦ elim (cases_Bool (p y)) [
          | inl more ↦ rw more (le_fold_max p (max d (f y)) xs x later passes)
          | inr fails ↦ rw fails (le_fold_max p d xs x later passes)
        ]
      ]

  -- one more value at the end
  pub fold_max-push : (d : ℕ) (xs : List X) (x : X) → fold max d (map f (xs ++ x ∷ [])) ≡ max (fold max d (map f xs)) (f x)
  fold_max-push d xs x = ap (fold max d) (map-append f xs (x ∷ [])) ∙ fold-append max d (map f xs) (f x ∷ [])

-- a sum is no greater where each part is no greater
pub sum_below_le : (n : ℕ) (f g : ℕ → ℕ) → ((k : ℕ) → k < n → f k ≤ g k) → sum_below n f ≤ sum_below n g
unfolding sum_below
sum_below_le zero f g le = omega arith
sum_below_le (suc n) f g le = omega (arith, sum_below_le n f g (λ k lt. le k (omega arith)), le n (omega arith))

-- where one part grows by at most d and no other grows, the sum grows by at most d
pub sum_below_raise : (n i d : ℕ) (f g : ℕ → ℕ) → ((k : ℕ) → (k ≡ i → ⊥) → f k ≤ g k) → f i ≤ g i + d → sum_below n f ≤ sum_below n g + d
unfolding sum_below
sum_below_raise zero i d f g others one = omega arith
sum_below_raise (suc n) i d f g others one =
    elim (cases_eq n i) [
      | inl is ↦ omega (arith, one, ap f is, ap g is, sum_below_le n f g (λ k lt. others k (λ same. omega (arith, is, same, lt))))
      | inr other ↦ omega (arith, sum_below_raise n i d f g others one, others n other)
    ]

-- two sums of parts that together are no greater than a third's
pub sum_below-both : (n : ℕ) (f g h : ℕ → ℕ) → ((k : ℕ) → k < n → f k + g k ≤ h k) → sum_below n f + sum_below n g ≤ sum_below n h
unfolding sum_below
sum_below-both zero f g h le = omega arith
sum_below-both (suc n) f g h le = omega (arith, sum_below-both n f g h (λ k lt. le k (omega arith)), le n (omega arith))
