-- What a list has left without the first entry that a test finds.
use Rattle.std.proofs.Common.{◌≡◌, ℕ, suc, ◌+◌, ◌≤◌, ◌<◌, Bool, true, false, cond, not, ◌||◌, ltb, List, [], ◌∷◌, ◌++◌, length, take, drop, get_or, Some, None, refl, sym, ◌∙◌, ap, arith, inl, inr}
use Rattle.std.specs.Prelude.{filter}
use Rattle.std.specs.List.{list_any, position, position_or_len, remove, All}
use Rattle.std.proofs.lemmas.Bool.{cases_lt, ltb-true, le-ltb, lt-ltb}
use Rattle.std.proofs.lemmas.List.{get_or_default}
use Rattle.revert_timers.specs.declared.expiries.Due.{Due}
use Rattle.revert_timers.specs.Expiries.{IsRising, is_past, without_first, first_past}

-- what `position` answers
some_place : (b : Bool) (n i : ℕ) → Some i ≡ cond b (Some n) None → (b ≡ true) × (i ≡ n)
some_place true n i is = (refl, cc)
some_place false n i is = absurd cc

no_place : (b : Bool) (n : ℕ) → None ≡ cond b (Some n) None → b ≡ false
no_place true n is = absurd cc
no_place false n is = refl

ltb_more : (n len : ℕ) → ltb n len ≡ ltb (1 + n) (1 + len)
ltb_more n len = elim (cases_lt n len) [
  | inl below ↦ rw (lt-ltb n len below, lt-ltb (1 + n) (1 + len) (omega arith)) refl
  | inr above ↦ rw (le-ltb n len above, le-ltb (1 + n) (1 + len) (omega arith)) refl
]

shifted : (n : ℕ) (x : Due) (xs : List Due)
    → take (1 + n) (x ∷ xs) ++ drop (1 + n + 1) (x ∷ xs) ≡ x ∷ (take n xs ++ drop (n + 1) xs)
shifted n x xs =
    let first : 1 + n ≡ suc n = omega arith in
    let behind : suc n + 1 ≡ suc (n + 1) = omega arith in
    rw (first, behind) refl

module _ (test : Due → Bool) where
  place_step : (b : Bool) (n len : ℕ) (any : Bool) → any ≡ ltb n len
      → (b || any) ≡ ltb (cond (not b) (1 + n) 0) (suc len)
  place_step true n len any is = sym (lt-ltb 0 (suc len) (omega arith))
  place_step false n len any is =
      let more : 1 + len ≡ suc len = omega arith in is ∙ ltb_more n len ∙ ap (λ (m : ℕ). ltb (1 + n) m) more

  -- an entry passes where one is the first
  list_any_place : (entries : List Due) → list_any test entries ≡ ltb (position_or_len test entries) (length entries)
  list_any_place [] = refl
  list_any_place (x ∷ xs) = place_step (test x) (position_or_len test xs) (length xs) (list_any test xs)
      (list_any_place xs)

  pub found : (entries : List Due) (i : ℕ) → Some i ≡ position test entries → true ≡ list_any test entries
  found entries i is = sym (list_any_place entries ∙ (some_place _ _ i is).0)

  pub found_within : (entries : List Due) (i : ℕ) → Some i ≡ position test entries → i < length entries
  found_within entries i is =
      let place = some_place (ltb (position_or_len test entries) (length entries)) _ i is in
      rw place.1 (ltb-true _ _ place.0)

  pub without_found : (entries left : List Due) (i : ℕ) → Some i ≡ position test entries
      → left ≡ remove entries i → left ≡ without_first test entries
  without_found entries left i is gone =
      let first = (some_place (ltb (position_or_len test entries) (length entries)) _ i is).1 in
      let behind : suc i ≡ i + 1 = omega arith in
      gone ∙ rw behind (ap (λ (n : ℕ). take n entries ++ drop (n + 1) entries) first)

  pub not_found : (entries : List Due) → None ≡ position test entries → false ≡ list_any test entries
  not_found entries is = sym (list_any_place entries ∙ no_place _ _ is)

  -- what is left of a list by its first entry
  cons_step : (b : Bool) (x : Due) (n : ℕ) (xs : List Due)
      → take (cond (not b) (1 + n) 0) (x ∷ xs) ++ drop (cond (not b) (1 + n) 0 + 1) (x ∷ xs) ≡ cond b xs
      (x ∷ (take n xs ++ drop (n + 1) xs))
  cons_step true x n xs = refl
  cons_step false x n xs = shifted n x xs

  pub without_first-cons : (x : Due) (xs : List Due)
      → without_first test (x ∷ xs) ≡ cond (test x) xs (x ∷ without_first test xs)
  without_first-cons x xs = cons_step (test x) x (position_or_len test xs) xs

  -- and with one entry more behind it
  more_step : (b any c : Bool) (x due : Due) (xs left later : List Due)
      → later ≡ cond any (left ++ due ∷ []) (cond c xs (xs ++ due ∷ []))
      → cond b (xs ++ due ∷ []) (x ∷ later)
      ≡ cond (b || any) (cond b xs (x ∷ left) ++ due ∷ []) (cond c (x ∷ xs) (x ∷ (xs ++ due ∷ [])))
  more_step true any c x due xs left later is = refl
  more_step false true c x due xs left later is = ap (λ (ys : List Due). x ∷ ys) is
  more_step false false true x due xs left later is = ap (λ (ys : List Due). x ∷ ys) is
  more_step false false false x due xs left later is = ap (λ (ys : List Due). x ∷ ys) is

  pub without_first-push : (entries : List Due) (due : Due) → without_first test (entries ++ due ∷ [])
      ≡ cond (list_any test entries) (without_first test entries ++ due ∷ []) (cond (test due) entries
      (entries ++ due ∷ []))
  without_first-push [] due = without_first-cons due []
  without_first-push (x ∷ xs) due =
      rw (without_first-cons x (xs ++ due ∷ []), without_first-cons x xs)
      (more_step (test x) (list_any test xs) (test due) x due xs (without_first test xs) _
      (without_first-push xs due))

  -- Where no entry passes, all are left; where at most one does, those that fail.
  none_step : (b : Bool) (x : Due) (xs passing failing : List Due)
      → length (cond b (x ∷ passing) passing) ≤ 0 → (length passing ≤ 0 → failing ≡ xs)
      → cond (not b) (x ∷ failing) failing ≡ x ∷ xs
  none_step true x xs passing failing few same = absurd (omega arith)
  none_step false x xs passing failing few same = ap (λ (ys : List Due). x ∷ ys) (same few)

  none_passes : (entries : List Due) → length (filter test entries) ≤ 0
      → filter (λ due. not (test due)) entries ≡ entries
  none_passes [] few = refl
  none_passes (x ∷ xs) few = none_step (test x) x xs (filter test xs) _ few (none_passes xs)

  only_step : (b : Bool) (x : Due) (xs passing failing left : List Due) → length (cond b (x ∷ passing) passing) ≤ 1
      → (length passing ≤ 0 → failing ≡ xs) → (length passing ≤ 1 → left ≡ failing)
      → cond b xs (x ∷ left) ≡ cond (not b) (x ∷ failing) failing
  only_step true x xs passing failing left few none only = sym (none (omega arith))
  only_step false x xs passing failing left few none only = ap (λ (ys : List Due). x ∷ ys) (only few)

  pub without_first-filter : (entries : List Due) → length (filter test entries) ≤ 1
      → without_first test entries ≡ filter (λ due. not (test due)) entries
  without_first-filter [] few = refl
  without_first-filter (x ∷ xs) few =
      without_first-cons x xs
      ∙ only_step (test x) x xs (filter test xs) _ _ few (none_passes xs) (without_first-filter xs)

-- where no entry is past, all stay
later_step : (now : ℕ) (x : Due) (xs left : List Due) → now ≤ x.last → left ≡ xs
    → cond (not (is_past now x)) (x ∷ left) left ≡ x ∷ xs
later_step now x xs left current same = rw (le-ltb x.last now current) (ap (λ (ys : List Due). x ∷ ys) same)

pub all_stay : (now : ℕ) (entries : List Due) → All (λ due. now ≤ due.last) entries
    → filter (λ due. not (is_past now due)) entries ≡ entries
all_stay now [] current = refl
all_stay now (x ∷ xs) current =
    later_step now x xs _ (current 0 x (omega arith)) (all_stay now xs (λ k d h. current (suc k) d (omega arith)))

first_stays : (now : ℕ) (x : Due) → cond (is_past now x) (Some x) None ≡ None → now ≤ x.last
first_stays now x none = elim (cases_lt x.last now) [
  | inl past ↦ absurd (let e : Some x ≡ None = rw (lt-ltb x.last now past) at none in cc)
  | inr current ↦ current
]

-- where the first isn't past, none is
pub all_later : (now : ℕ) (entries : List Due) → IsRising entries → first_past now entries ≡ None
    → All (λ due. now ≤ due.last) entries
all_later now [] rising none = λ k d h. absurd (omega arith)
all_later now (x ∷ xs) rising none =
    λ k d h. omega (arith, rising 0 k d (omega arith) h, first_stays now x none)

-- where the first entry isn't past, none is
pub later_than_first : (now : ℕ) (x : Due) (entries : List Due) → IsRising entries
    → x ≡ get_or entries 0 x → now ≤ x.last
    → All (λ due. now ≤ due.last) entries
later_than_first now x entries rising is current =
    λ k d h. omega (
      arith,
      ap (λ (due : Due). due.last) is,
      rising 0 k x (omega arith) h,
      current,
      ap (λ (due : Due). due.last) (get_or_default entries k d x h),
    )
