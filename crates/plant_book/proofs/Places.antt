-- Where elements of a list stand: before, at or after one another.
use Rattle.std.proofs.Common.{◌≡◌, ◌+◌, ◌≤◌, Bool, true, false, cond, List, [], ◌∷◌, ◌++◌, Option, Some, None, refl, sym, ap, subst, ◌∙◌, arith, inl, inr}
use Rattle.std.specs.Prelude.{find, count_by}
use Rattle.std.specs.Option.{option_or}
use Rattle.std.specs.List.{AllByRecursion}
use Rattle.std.proofs.lemmas.Bool.{cases_Bool}
use Rattle.std.proofs.lemmas.List.Folds.{find-append}
use Rattle.std.proofs.lemmas.List.Sums.{sum_by-append}
use Rattle.plant_book.specs.Sums.{last_that}
use Rattle.plant_book.proofs.Last.{last_that-cons}

-- x stands at the end of some elements, then others, then y
pub record Earlier {X : Type 0} (before : List X) (x : X) (after : List X) (later : List X) (y : X) (rest : List X) : Type 0 where
  pub between : List X
  pub to_later : later ≡ before ++ x ∷ between
  pub to_after : after ≡ between ++ y ∷ rest

-- two places in one list are the same, or one is before the other
pub data Places {X : Type 0} (before : List X) (x : X) (after : List X) (later : List X) (y : X) (rest : List X) : Type 0 where
  Same : before ≡ later → x ≡ y → after ≡ rest → Places before x after later y rest
  Before : Earlier before x after later y rest → Places before x after later y rest
  After : Earlier later y rest before x after → Places before x after later y rest

one_more_place : {X : Type 0} (z : X) (before : List X) (x : X) (after : List X) (later : List X) (y : X) (rest : List X) → Places before x after later y rest → Places (z ∷ before) x after (z ∷ later) y rest
one_more_place {X = X} z before x after later y rest (Same a b c) = Same (ap (λ (zs : List X). z ∷ zs) a) b c
one_more_place {X = X} z before x after later y rest (Before e) = Before (record { between = e.between; to_later = ap (λ (zs : List X). z ∷ zs) e.to_later; to_after = e.to_after })
one_more_place {X = X} z before x after later y rest (After e) = After (record { between = e.between; to_later = ap (λ (zs : List X). z ∷ zs) e.to_later; to_after = e.to_after })

tails : {X : Type 0} (x y : X) (xs ys : List X) → x ∷ xs ≡ y ∷ ys → xs ≡ ys
tails x y xs ys is = cc

heads : {X : Type 0} (x y : X) (xs ys : List X) → x ∷ xs ≡ y ∷ ys → x ≡ y
heads x y xs ys is = cc

pub places : {X : Type 0} (before : List X) (x : X) (after : List X) (later : List X) (y : X) (rest : List X) → before ++ x ∷ after ≡ later ++ y ∷ rest → Places before x after later y rest
places [] x after [] y rest is = Same refl (heads x y after rest is) (tails x y after rest is)
places {X = X} [] x after (z ∷ later) y rest is = Before (record { between = later; to_later = ap (λ (w : X). w ∷ later) (sym (heads x z after (later ++ y ∷ rest) is)); to_after = tails x z after (later ++ y ∷ rest) is })
places {X = X} (z ∷ before) x after [] y rest is = After (record { between = before; to_later = ap (λ (w : X). w ∷ before) (heads z y (before ++ x ∷ after) rest is); to_after = sym (tails z y (before ++ x ∷ after) rest is) })
places {X = X} (z ∷ before) x after (w ∷ later) y rest is =
    let first = heads z w (before ++ x ∷ after) (later ++ y ∷ rest) is in
    let more = one_more_place z before x after later y rest (places before x after later y rest (tails z w (before ++ x ∷ after) (later ++ y ∷ rest) is)) in
    subst (λ (v : X). Places (z ∷ before) x after (v ∷ later) y rest) first more

none_of_both : {X : Type 0} (first second : Option X) → option_or first second ≡ None → (first ≡ None) × (second ≡ None)
none_of_both None second is = (refl, is)
none_of_both (Some x) second is = absurd cc

-- none passes in either part of a list in which none passes
pub find_none-append : {X : Type 0} (p : X → Bool) (xs ys : List X) → find p (xs ++ ys) ≡ None → (find p xs ≡ None) × (find p ys ≡ None)
find_none-append p xs ys is = none_of_both (find p xs) (find p ys) (sym (find-append p xs ys) ∙ is)

-- the last that passes, where none behind it does
none_to_last : {X : Type 0} (p : X → Bool) (xs : List X) → find p xs ≡ None → last_that p xs ≡ None
unfolding last_that
none_to_last p [] is = refl
none_to_last p (x ∷ xs) is =
    elim (cases_Bool (p x)) [
      | inl passes ↦ absurd (let no = rw passes at is in cc)
      | inr fails ↦ let rest = rw fails at is in last_that-cons p x xs ∙ rw (none_to_last p xs rest, fails) refl
    ]

pub last_that-is : {X : Type 0} (p : X → Bool) (before : List X) (x : X) (after : List X) → p x ≡ true → find p after ≡ None → last_that p (before ++ x ∷ after) ≡ Some x
last_that-is p [] x after passes none = last_that-cons p x after ∙ rw (none_to_last p after none, passes) refl
last_that-is p (y ∷ before) x after passes none = last_that-cons p y (before ++ x ∷ after) ∙ rw (last_that-is p before x after passes none) refl

-- where an element stands that passes
pub record Stands {X : Type 0} (p : X → Bool) (xs : List X) : Type 0 where
  pub before : List X
  pub one : X
  pub after : List X
  pub stand : xs ≡ before ++ one ∷ after
  pub passes : p one ≡ true

pub counted_stands : {X : Type 0} (p : X → Bool) (xs : List X) → 1 ≤ count_by p xs → Stands p xs
counted_stands p [] some = absurd (omega (arith, some))
counted_stands {X = X} p (x ∷ xs) some =
    elim (cases_Bool (p x)) [
      | inl passes ↦ record { before = []; one = x; after = xs; stand = refl; passes = passes }
      | inr fails ↦
          let fewer = rw fails at some in
          let rest = counted_stands p xs fewer in
          record { before = x ∷ rest.before; one = rest.one; after = rest.after; stand = ap (λ (zs : List X). x ∷ zs) rest.stand; passes = rest.passes }
    ]

pub count_by-append : {X : Type 0} (p : X → Bool) (xs ys : List X) → count_by p (xs ++ ys) ≡ count_by p xs + count_by p ys
count_by-append p xs ys = sum_by-append (λ x. cond (p x) 1 0) xs ys

-- where none passes the count is 0
pub count_by-none : {X : Type 0} (p : X → Bool) (P : X → Type 0) → ((x : X) → P x → p x ≡ false) → (xs : List X) → AllByRecursion P xs → count_by p xs ≡ 0
count_by-none p P fails [] all = refl
count_by-none p P fails (x ∷ xs) all = rw (fails x all.0) (count_by-none p P fails xs all.1)
