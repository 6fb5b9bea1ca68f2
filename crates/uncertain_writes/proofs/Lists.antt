-- What tests leave of a list.
use Rattle.std.proofs.Common.{◌≡◌, ℕ, max, ◌+◌, ◌*◌, ◌<◌, ◌≤◌, Bool, true, false, cond, not, ◌&&◌, ◌||◌, List, [], ◌∷◌, length, get_or, take, drop, map, refl, ap, sym, ◌∙◌, arith, inl, inr}
use Rattle.std.specs.Prelude.{filter, fold}
use Rattle.std.specs.List.{list_any}
use Rattle.std.proofs.lemmas.Bool.{cases_Bool, cases_lt}
use Rattle.std.proofs.lemmas.List.Filters.{length-filter_both}
use Rattle.std.proofs.lemmas.List.{append-nil}
use Rattle.std.proofs.lemmas.List.Elements.{filter_more}
use Rattle.std.proofs.Math.Nat.{mul-le-mul_left}
use Rattle.limiter_num.specs.declared.rating.Rating.{Rating}
use Rattle.limiter_num.specs.Rating.{mw}
use Rattle.limiter_num.specs.Milliwatts.{mw_of, power_of}
use Rattle.limiter_num.proofs.Scaled.{scaled_up_times}
use Rattle.plant_book.proofs.Maxima.{fold_max-push}
use Rattle.plant_book.specs.declared.call.Write as writes
use Rattle.uncertain_writes.specs.Live.{live_max, without}

module _ (test : writes.Write → Bool) (its : List writes.Write) where
  -- the writes that a test finds, and those that it leaves
  pub length-without : length (filter test its) + length (without test its) ≡ length its
  length-without = length-filter_both test (λ write. not (test write)) (λ write. refl) its

  -- a list stays short enough
  pub without_few : length its ≤ live_max → length (without test its) ≤ live_max
  without_few few = omega (arith, length-without)

module _ {X : Type 0} where
  -- a test that finds nothing leaves the list
  pub filter_none_found : (p : X → Bool) (xs : List X) → list_any p xs ≡ false → (filter (λ x. not (p x)) xs ≡ xs) × (filter p xs ≡ [])
  filter_none_found p [] none = (refl, refl)
  filter_none_found p (x ∷ xs) none =
      elim (cases_Bool (p x)) [
        | inl finds ↦ absurd (let both : true ≡ false = sym (ap (λ (b : Bool). b || list_any p xs) finds) ∙ none in cc)
        | inr fails ↦
            let others = filter_none_found p xs (sym (ap (λ (b : Bool). b || list_any p xs) fails) ∙ none) in
            (rw fails (ap (λ (ys : List X). x ∷ ys) others.0), rw fails others.1)
      ]

  -- of a list of which only the first is found the others are left
  pub first_found : (p : X → Bool) (x : X) (xs : List X) → p x ≡ true → list_any p xs ≡ false
      → (filter (λ y. not (p y)) (x ∷ xs) ≡ xs) × (length (filter p (x ∷ xs)) ≡ 1)
  first_found p x xs is none =
      let others = filter_none_found p xs none in
      (rw is others.0, rw (is, others.1) refl)

  -- a test that each element passes leaves the list
  pub filter_all : (p : X → Bool) → ((x : X) → p x ≡ true) → (xs : List X) → filter p xs ≡ xs
  filter_all p passes [] = refl
  filter_all p passes (x ∷ xs) = rw (passes x) (ap (λ (ys : List X). x ∷ ys) (filter_all p passes xs))

  pub first_alone : (p : X → Bool) (xs : List X) (x : X) → 1 ≤ length xs → x ≡ get_or xs 0 x → p x ≡ true → list_any p (drop 1 xs) ≡ false
      → (filter (λ y. not (p y)) xs ≡ drop 1 xs) × (length (filter p xs) ≡ 1)
  first_alone p [] x some is passes none = absurd (omega (arith, some))
  first_alone p (y ∷ ys) x some is passes none = first_found p y ys (ap p (sym is) ∙ passes) none

  -- Tests one after the other keep the elements that pass both.
  both_step : (p q both : X → Bool) (x : X) (ys zs : List X) → both x ≡ (p x && q x) → filter q ys ≡ zs
      → filter q (cond (p x) (x ∷ ys) ys) ≡ cond (both x) (x ∷ zs) zs
  both_step p q both x ys zs is same =
      elim (cases_Bool (p x)) [
        | inl passes ↦ rw (is, passes, same) refl
        | inr fails ↦ rw (is, fails, same) refl
      ]

  pub filter-filter : (p q both : X → Bool) → ((x : X) → both x ≡ (p x && q x)) → (xs : List X) → filter q (filter p xs) ≡ filter both xs
  filter-filter p q both is [] = refl
  filter-filter p q both is (x ∷ xs) = both_step p q both x (filter p xs) (filter both xs) (is x) (filter-filter p q both is xs)

  -- Among the elements that pass the first test, two others that agree keep the same.
  swap_step : (p q other : X → Bool) (x : X) (ys zs : List X) → (p x ≡ true → q x ≡ other x) → filter p ys ≡ filter other zs
      → filter p (cond (q x) (x ∷ ys) ys) ≡ filter other (cond (p x) (x ∷ zs) zs)
  swap_step p q other x ys zs agree same =
      elim (cases_Bool (p x)) [
        | inl passes ↦ elim (cases_Bool (q x)) [
          | inl stays ↦ let also : other x ≡ true = sym (agree passes) ∙ stays in rw (passes, stays, also, passes, same) refl
          | inr goes ↦ let also : other x ≡ false = sym (agree passes) ∙ goes in rw (passes, goes, also) same
        ]
        | inr fails ↦ elim (cases_Bool (q x)) [
          | inl stays ↦ rw (fails, stays, fails) same
          | inr goes ↦ rw (fails, goes) same
        ]
      ]

  pub filter-swap : (p q other : X → Bool) → ((x : X) → p x ≡ true → q x ≡ other x) → (xs : List X) → filter p (filter q xs) ≡ filter other (filter p xs)
  filter-swap p q other agree [] = refl
  filter-swap p q other agree (x ∷ xs) = swap_step p q other x (filter q xs) (filter p xs) (agree x) (filter-swap p q other agree xs)

-- the greatest of some numbers, and one more that they begin with
pub fold_max-from : (d : ℕ) (xs : List ℕ) → fold max d xs ≡ max d (fold max 0 xs)
fold_max-from d [] = omega arith
fold_max-from d (x ∷ xs) = omega (arith, fold_max-from (max d x) xs, fold_max-from (max 0 x) xs)

-- a greater raw percentage stands for no fewer milliwatts
mw-mono : (rating : Rating) (low high : ℕ) → low ≤ high → mw rating low ≤ mw rating high
unfolding mw_of
mw-mono rating low high le =
    let wmax = rating.wmax in
    omega (arith, scaled_up_times 1 (wmax * high) (wmax * low) (power_of rating.wsf rating.psf) (omega (arith, mul-le-mul_left wmax le)))

-- the milliwatts of the greater are the greater milliwatts
pub mw-max : (rating : Rating) (a b : ℕ) → mw rating (max a b) ≡ max (mw rating a) (mw rating b)
mw-max rating a b =
    elim (cases_lt a b) [
      | inl lt ↦ let is : max a b ≡ b = omega arith in omega (arith, ap (mw rating) is, mw-mono rating a b (omega arith))
      | inr le ↦ let is : max a b ≡ a = omega arith in omega (arith, ap (mw rating) is, mw-mono rating b a le)
    ]

-- and 0 stands for none
pub mw-zero : (rating : Rating) → mw rating 0 ≡ 0
unfolding mw_of
mw-zero rating = omega (arith, scaled_up_times 0 0 (rating.wmax * 0) (power_of rating.wsf rating.psf) (omega arith))

-- the milliwatts of the greatest raw percentage of those that a test leaves, and of one more of them
module _ (rating : Rating) (test : writes.Write → Bool) (its : List writes.Write) (i most : ℕ) (item : writes.Write) (within : i < length its) (is : item ≡ get_or its i item)
    (old : mw rating most ≡ fold max 0 (map (λ write. mw rating write.raw) (without test (take i its)))) where
  pub greatest_left_more : (raw new : ℕ) → raw ≡ item.raw → new ≡ max most raw → test item ≡ false
      → mw rating new ≡ fold max 0 (map (λ write. mw rating write.raw) (without test (take (i + 1) its)))
  greatest_left_more raw new its_raw greater stays =
      let next = get_or its i item in
      let more = fold_max-push (λ (write : writes.Write). mw rating write.raw) 0 (without test (take i its)) next in
      let its_mw = ap (λ (write : writes.Write). mw rating write.raw) is in
      let passes : not (test next) ≡ true = ap (λ (write : writes.Write). not (test write)) (sym is) ∙ ap not stays in
      rw (filter_more (λ (write : writes.Write). not (test write)) its i item within, passes)
      (omega (arith, more, its_mw, ap (mw rating) its_raw, ap (mw rating) greater, mw-max rating most raw, old))

  pub greatest_left_same : test item ≡ true → mw rating most ≡ fold max 0 (map (λ write. mw rating write.raw) (without test (take (i + 1) its)))
  greatest_left_same goes =
      let fails : not (test (get_or its i item)) ≡ false = ap (λ (write : writes.Write). not (test write)) (sym is) ∙ ap not goes in
      rw (filter_more (λ (write : writes.Write). not (test write)) its i item within, fails, append-nil (without test (take i its))) old
