-- Sums over the seats of a desk.
use Rattle.std.proofs.Common.{◌≡◌, ◌≢◌, eq-eqb, ne_eqb, ℕ, zero, suc, ◌+◌, ◌<◌, ◌≤◌, eqb, cond, Bool, List, [], ◌∷◌, map, length, set, refl, sym, ap, ◌∙◌, arith}
use Rattle.std.specs.List.{sum_by, range_with_len}
use Rattle.std.proofs.lemmas.List.Sums.{sum_by-cons}
use mathlib.Core.Option.{some, some-ne-none, some-injective}
use lib.ListN.{get_elem?}
use mathlib.Core.Logic.{dite}
use native.Mathlib.Decide.{ℕ_discrete}

module _ {A : Type 0} (f : A → ℕ) where
  -- the sum after a change of one
  pub sum_by-set_at : (xs : List A) (i : ℕ) (v w : A) → get_elem? xs i ≡ some v → sum_by f (set xs i w) + f v ≡ sum_by f xs + f w
  sum_by-set_at [] i v w at = absurd (some-ne-none v (sym at))
  sum_by-set_at (x ∷ xs) zero v w at =
      let same : f x ≡ f v = ap f (some-injective x v at) in omega (arith, sum_by-cons f w xs, sum_by-cons f x xs)
  sum_by-set_at (x ∷ xs) (suc i) v w at = omega (arith, sum_by-set_at xs i v w at, sum_by-cons f x (set xs i w), sum_by-cons f x xs)

  pub one-le-sum_by : (xs : List A) (i : ℕ) (v : A) → get_elem? xs i ≡ some v → f v ≤ sum_by f xs
  one-le-sum_by [] i v at = absurd (some-ne-none v (sym at))
  one-le-sum_by (x ∷ xs) zero v at = let same : f x ≡ f v = ap f (some-injective x v at) in omega (arith, sum_by-cons f x xs)
  one-le-sum_by (x ∷ xs) (suc i) v at = omega (arith, one-le-sum_by xs i v at, sum_by-cons f x xs)

  -- two different ones
  pub two-le-sum_by : (xs : List A) (i j : ℕ) (v w : A) → j ≢ i → get_elem? xs i ≡ some v → get_elem? xs j ≡ some w → f v + f w ≤ sum_by f xs
  two-le-sum_by [] i j v w apart at there = absurd (some-ne-none v (sym at))
  two-le-sum_by (x ∷ xs) zero zero v w apart at there = absurd (apart refl)
  two-le-sum_by (x ∷ xs) zero (suc j) v w apart at there =
      let same : f x ≡ f v = ap f (some-injective x v at) in omega (arith, one-le-sum_by xs j w there, sum_by-cons f x xs)
  two-le-sum_by (x ∷ xs) (suc i) zero v w apart at there =
      let same : f x ≡ f w = ap f (some-injective x w there) in omega (arith, one-le-sum_by xs i v at, sum_by-cons f x xs)
  two-le-sum_by (x ∷ xs) (suc i) (suc j) v w apart at there =
      omega (arith, two-le-sum_by xs i j v w (λ e. apart (ap suc e)) at there, sum_by-cons f x xs)

  pub sum_by-none : (xs : List A) → ((j : ℕ) (u : A) → get_elem? xs j ≡ some u → f u ≡ 0) → sum_by f xs ≡ 0
  sum_by-none [] none = refl
  sum_by-none (x ∷ xs) none = omega (arith, none 0 x refl, sum_by-none xs (λ j u. none (suc j) u), sum_by-cons f x xs)

  -- only one of them counts
  pub sum_by-only : (xs : List A) (i : ℕ) (v : A) → get_elem? xs i ≡ some v → ((j : ℕ) (u : A) → j ≢ i → get_elem? xs j ≡ some u → f u ≡ 0) → sum_by f xs ≡ f v
  sum_by-only [] i v at none = absurd (some-ne-none v (sym at))
  sum_by-only (x ∷ xs) zero v at none =
      let same : f x ≡ f v = ap f (some-injective x v at) in
      omega (arith, sum_by-none xs (λ j u there. none (suc j) u (λ e. absurd (omega arith)) there), sum_by-cons f x xs)
  sum_by-only (x ∷ xs) (suc i) v at none =
      omega (arith, none 0 x (λ e. absurd (omega arith)) refl, sum_by-only xs i v at (λ j u apart there. none (suc j) u (λ e. apart (omega arith)) there), sum_by-cons f x xs)

pub sum_by-map_of : {A B : Type 0} (f : B → ℕ) (g : A → B) (xs : List A) → sum_by f (map g xs) ≡ sum_by (λ x. f (g x)) xs
sum_by-map_of f g [] = refl
sum_by-map_of f g (x ∷ xs) = sum_by-cons f (g x) (map g xs) ∙ ap (λ (n : ℕ). f (g x) + n) (sum_by-map_of f g xs) ∙ sym (sum_by-cons (λ y. f (g y)) x xs)

-- one for the number x, and nothing for another
abbrev pub is_one : ℕ → ℕ → ℕ
is_one x n = cond (eqb n x) 1 0

is_one-other : (x n : ℕ) → n ≢ x → is_one x n ≡ 0
is_one-other x n other = ap (λ (b : Bool). cond b 1 0) (ne_eqb n x other)

pub is_one-same : (x n : ℕ) → n ≡ x → is_one x n ≡ 1
is_one-same x n same = ap (λ (b : Bool). cond b 1 0) (eq-eqb n x same)

pub sum_by-below : (x from count : ℕ) → x < from → sum_by (is_one x) (range_with_len from count) ≡ 0
sum_by-below x from zero lt = refl
sum_by-below x from (suc count) lt =
    omega (arith, is_one-other x from (λ e. absurd (omega arith)), sum_by-below x (from + 1) count (omega arith), sum_by-cons (is_one x) from (range_with_len (from + 1) count))

pub sum_by-there : (x from count : ℕ) → from ≤ x → x < from + count → sum_by (is_one x) (range_with_len from count) ≡ 1
sum_by-there x from zero low high = absurd (omega arith)
sum_by-there x from (suc count) low high = dite (ℕ_discrete from x)
    (λ (same : from ≡ x). omega (arith, is_one-same x from same, sum_by-below x (from + 1) count (omega arith), sum_by-cons (is_one x) from (range_with_len (from + 1) count)))
    (λ (other : from ≢ x). omega (arith, is_one-other x from other, sum_by-there x (from + 1) count (omega arith) (omega arith), sum_by-cons (is_one x) from (range_with_len (from + 1) count)))

pub sum_by-once : (x from count : ℕ) → sum_by (is_one x) (range_with_len from count) ≤ 1
sum_by-once x from zero = omega arith
sum_by-once x from (suc count) = dite (ℕ_discrete from x)
    (λ (same : from ≡ x). omega (arith, is_one-same x from same, sum_by-below x (from + 1) count (omega arith), sum_by-cons (is_one x) from (range_with_len (from + 1) count)))
    (λ (other : from ≢ x). omega (arith, is_one-other x from other, sum_by-once x (from + 1) count, sum_by-cons (is_one x) from (range_with_len (from + 1) count)))

pub sum_by-ones : (from count : ℕ) → sum_by (λ n. 1) (range_with_len from count) ≡ count
sum_by-ones from zero = refl
sum_by-ones from (suc count) = omega (arith, sum_by-ones (from + 1) count, sum_by-cons (λ n. 1) from (range_with_len (from + 1) count))

pub sum_by-length : {A : Type 0} (xs : List A) → sum_by (λ x. 1) xs ≡ length xs
sum_by-length [] = refl
sum_by-length (x ∷ xs) = omega (arith, sum_by-length xs, sum_by-cons (λ x. 1) x xs)

pub empty-of_length : {A : Type 0} (xs : List A) → length xs ≡ 0 → xs ≡ []
empty-of_length [] none = refl
empty-of_length (x ∷ xs) none = absurd (omega arith)
