-- The last element that passes a test, and where it stands.
use Rattle.std.proofs.Common.{◌≡◌, Bool, false, cond, List, [], ◌∷◌, ◌++◌, Option, Some, None, refl, sym, ap, subst, ◌∙◌, inl, inr}
use Rattle.std.specs.Prelude.{find, reverse}
use Rattle.std.specs.List.{AllByRecursion}
use Rattle.std.specs.Option.{option_or}
use Rattle.std.proofs.lemmas.Bool.{cases_Bool}
use Rattle.std.proofs.lemmas.List.{reverse-append}
use Rattle.std.proofs.lemmas.List.Folds.{find-append}
use Rattle.plant_book.specs.Sums.{last_that}

abbrev some : {X : Type 0} → X → Option X
some x = Some x

-- the last that passes of a list is that of the rest, or else the first element where it passes
pub last_that-cons : {X : Type 0} (p : X → Bool) (x : X) (xs : List X) → last_that p (x ∷ xs) ≡ option_or (last_that p xs) (cond (p x) (Some x) None)
unfolding last_that
last_that-cons p x xs = ap (find p) (reverse-append (x ∷ []) xs) ∙ find-append p (reverse xs) (x ∷ [])

-- where an element of a list stands that passes, with none behind it that does
pub record StandsLast {X : Type 0} (p : X → Bool) (xs : List X) (x : X) : Type 0 where
  pub before : List X
  pub after : List X
  pub stand : xs ≡ before ++ x ∷ after
  pub none_after : find p after ≡ None

none_step : {X : Type 0} (p : X → Bool) (x : X) (o : Option X) → option_or o (cond (p x) (Some x) None) ≡ None → (o ≡ None) × (p x ≡ false)
none_step p x None is = elim (cases_Bool (p x)) [ inl passes ↦ absurd (let never = rw passes at is in cc) | inr fails ↦ (refl, fails) ]
none_step p x (Some y) is = absurd cc

-- none passes from the front where none does from the end
pub none_from_last : {X : Type 0} (p : X → Bool) (xs : List X) → last_that p xs ≡ None → find p xs ≡ None
none_from_last p [] is = refl
none_from_last p (x ∷ xs) is =
    let parts = none_step p x (last_that p xs) (sym (last_that-cons p x xs) ∙ is) in
    rw parts.1 (none_from_last p xs parts.0)

some_step : {X : Type 0} (p : X → Bool) (y : X) (ys : List X) (x : X) (o : Option X) → last_that p ys ≡ o → ((z : X) → last_that p ys ≡ Some z → StandsLast p ys z)
    → option_or o (cond (p y) (Some y) None) ≡ Some x → StandsLast p (y ∷ ys) x
some_step {X = X} p y ys x None none rest is =
    elim (cases_Bool (p y)) [
      | inl passes ↦
          let same : y ≡ x = let one = rw passes at is in cc in
          record { before = []; after = ys; stand = ap (λ (z : X). z ∷ ys) same; none_after = none_from_last p ys none }
      | inr fails ↦ absurd (let never = rw fails at is in cc)
    ]
some_step {X = X} p y ys x (Some z) found rest is =
    let same : z ≡ x = cc in
    let last = rest x (found ∙ ap (λ (v : X). Some v) same) in
    record { before = y ∷ last.before; after = last.after; stand = ap (λ (zs : List X). y ∷ zs) last.stand; none_after = last.none_after }

pub last_that-stands : {X : Type 0} (p : X → Bool) (xs : List X) (x : X) → last_that p xs ≡ Some x → StandsLast p xs x
unfolding last_that
last_that-stands p [] x is = absurd cc
last_that-stands p (y ∷ ys) x is = some_step p y ys x (last_that p ys) refl (λ z. last_that-stands p ys z) (sym (last_that-cons p y ys) ∙ is)

pub some_is : {X : Type 0} (x y : X) → some x ≡ some y → x ≡ y
some_is x y is = cc

-- what holds of each element holds of the first that passes
pub found_has : {X : Type 0} (P : X → Type 0) (p : X → Bool) (xs : List X) (x : X) → AllByRecursion P xs → find p xs ≡ Some x → P x
found_has P p [] x all is = absurd cc
found_has P p (y ∷ ys) x all is =
    elim (cases_Bool (p y)) [
      | inl passes ↦ let one = rw passes at is in subst P (some_is y x one) all.0
      | inr fails ↦ let more = rw fails at is in found_has P p ys x all.1 more
    ]
