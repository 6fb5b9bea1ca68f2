-- What one more entry at the end of a book changes.
use Rattle.std.proofs.Common.{◌≡◌, ℕ, ◌+◌, ◌-◌, ◌<◌, Bool, true, false, cond, not, List, [], ◌∷◌, ◌++◌, length, take, drop, get_or, Some, refl, sym, ap, ◌∙◌, append_assoc, arith}
use Rattle.std.specs.Prelude.{count_by, find, slice_get}
use Rattle.std.specs.Option.{option_map_or}
use Rattle.plant_book.specs.Sums.{last_that, through_last}
use Rattle.std.specs.List.{after_last, prefix_len, suffix_len}
use Rattle.std.proofs.lemmas.List.{append-nil, length_push, take_more, take_all, take-append-le, drop-append-le, drop_all, reverse-append}
use Rattle.std.proofs.lemmas.List.Sums.{suffix_len-le-length, sum_by-append}
use Rattle.plant_book.specs.declared.book.Entry.{Entry}
use Rattle.plant_book.specs.Calls.{moment, latest}
use Rattle.plant_book.specs.Requests.{is_link, is_request, requests}

pub latest-push : (start : ℕ) (entries : List Entry) (entry : Entry) → latest start (entries ++ entry ∷ []) ≡ moment entry.call
unfolding latest
latest-push start [] entry = refl
latest-push start (first ∷ entries) entry = latest-push (moment first.call) entries entry

suffix_len-push : {X : Type 0} (p : X → Bool) (xs : List X) (x : X) → suffix_len p (xs ++ x ∷ []) ≡ cond (p x) (1 + suffix_len p xs) 0
suffix_len-push p xs x = ap (prefix_len p) (reverse-append xs (x ∷ []))

-- behind an element that passes nothing stands
pub after_last-push_passes : {X : Type 0} (p : X → Bool) (xs : List X) (x : X) → p x ≡ true → after_last p (xs ++ x ∷ []) ≡ []
after_last-push_passes p xs x passes =
    let none : suffix_len (λ y. not (p y)) (xs ++ x ∷ []) ≡ 0 = suffix_len-push (λ y. not (p y)) xs x ∙ rw passes refl in
    drop_all _ (xs ++ x ∷ []) (omega (arith, none))

-- one that doesn't pass stands behind what stood there
pub after_last-push_fails : {X : Type 0} (p : X → Bool) (xs : List X) (x : X) → p x ≡ false → after_last p (xs ++ x ∷ []) ≡ after_last p xs ++ x ∷ []
after_last-push_fails p xs x fails =
    let tail = suffix_len (λ y. not (p y)) xs in
    let more : suffix_len (λ y. not (p y)) (xs ++ x ∷ []) ≡ 1 + tail = suffix_len-push (λ y. not (p y)) xs x ∙ rw fails refl in
    let len : length (xs ++ x ∷ []) ≡ length xs + 1 = length_push xs x in
    let place : length (xs ++ x ∷ []) - suffix_len (λ y. not (p y)) (xs ++ x ∷ []) ≡ length xs - tail = omega (arith, more, len, suffix_len-le-length (λ y. not (p y)) xs) in
    ap (λ (n : ℕ). drop n (xs ++ x ∷ [])) place ∙ drop-append-le (length xs - tail) xs (x ∷ []) (omega arith)

-- the elements up to the last that passes, of a list with one more at its end
pub through_last-push_passes : {X : Type 0} (p : X → Bool) (xs : List X) (x : X) → p x ≡ true → through_last p (xs ++ x ∷ []) ≡ xs ++ x ∷ []
unfolding through_last
through_last-push_passes {X = X} p xs x passes =
    let none : length (after_last p (xs ++ x ∷ [])) ≡ 0 = ap (length {A = X}) (after_last-push_passes p xs x passes) in
    take_all _ (xs ++ x ∷ []) (omega (arith, none))

pub through_last-push_fails : {X : Type 0} (p : X → Bool) (xs : List X) (x : X) → p x ≡ false → through_last p (xs ++ x ∷ []) ≡ through_last p xs
unfolding through_last
through_last-push_fails {X = X} p xs x fails =
    let more : length (after_last p (xs ++ x ∷ [])) ≡ length (after_last p xs) + 1 = ap (length {A = X}) (after_last-push_fails p xs x fails) ∙ length_push (after_last p xs) x in
    let place : length (xs ++ x ∷ []) - length (after_last p (xs ++ x ∷ [])) ≡ length xs - length (after_last p xs) = omega (arith, more, length_push xs x) in
    ap (λ (n : ℕ). take n (xs ++ x ∷ [])) place ∙ take-append-le (length xs - length (after_last p xs)) xs (x ∷ []) (omega arith)

pub count_by-push : {X : Type 0} (p : X → Bool) (xs : List X) (x : X) → count_by p (xs ++ x ∷ []) ≡ count_by p xs + cond (p x) 1 0
count_by-push p xs x = omega (arith, sum_by-append (λ y. cond (p y) 1 0) xs (x ∷ []))

module _ (inverter : ℕ) (entries : List Entry) (entry : Entry) where
  pub requests-push_link : is_link inverter entry ≡ true → requests inverter (entries ++ entry ∷ []) ≡ 0
  unfolding requests
  requests-push_link link = ap (count_by (is_request inverter)) (after_last-push_passes (is_link inverter) entries entry link)

  pub requests-push : is_link inverter entry ≡ false → requests inverter (entries ++ entry ∷ []) ≡ requests inverter entries + cond (is_request inverter entry) 1 0
  unfolding requests
  requests-push other = ap (count_by (is_request inverter)) (after_last-push_fails (is_link inverter) entries entry other) ∙ count_by-push (is_request inverter) (after_last (is_link inverter) entries) entry

-- the same for the entry at a place of a list
module _ (inverter : ℕ) (entries : List Entry) (place : ℕ) (default : Entry) (within : place < length entries) where
  pub requests-more_link : is_link inverter (get_or entries place default) ≡ true → requests inverter (take (place + 1) entries) ≡ 0
  requests-more_link link = rw (take_more entries place default within) (requests-push_link inverter (take place entries) (get_or entries place default) link)

  pub requests-more : (request : Bool) → is_link inverter (get_or entries place default) ≡ false → is_request inverter (get_or entries place default) ≡ request
      → requests inverter (take (place + 1) entries) ≡ requests inverter (take place entries) + cond request 1 0
  requests-more request other is = rw (take_more entries place default within, ← is) (requests-push inverter (take place entries) (get_or entries place default) other)

-- the last moment is that of the last entry
latest-last_some : (start default : ℕ) (entry : Entry) (entries : List Entry) → latest start (entry ∷ entries) ≡ option_map_or (λ last. moment last.call) (slice_get (entry ∷ entries) (length entries)) default
unfolding latest
latest-last_some start default entry [] = refl
latest-last_some start default entry (next ∷ entries) = latest-last_some (moment entry.call) default next entries

pub latest-last : (start : ℕ) (entries : List Entry) → latest start entries ≡ option_map_or (λ last. moment last.call) (slice_get entries (length entries - 1)) start
unfolding latest
latest-last start [] = refl
latest-last start (entry ∷ entries) =
    let place : length entries ≡ length (entry ∷ entries) - 1 = omega arith in
    latest-last_some start start entry entries ∙ ap (λ (n : ℕ). option_map_or (λ last. moment last.call) (slice_get (entry ∷ entries) n) start) place

-- the last element that passes, of a list with one more at its end
pub last_that-push : {X : Type 0} (p : X → Bool) (xs : List X) (x : X) → last_that p (xs ++ x ∷ []) ≡ cond (p x) (Some x) (last_that p xs)
unfolding last_that
last_that-push p xs x = ap (find p) (reverse-append xs (x ∷ []))

-- the same for the element at a place of a list
pub last_that-more : {X : Type 0} (p : X → Bool) (xs : List X) (place : ℕ) (default : X) → place < length xs
    → last_that p (take (place + 1) xs) ≡ cond (p (get_or xs place default)) (Some (get_or xs place default)) (last_that p (take place xs))
last_that-more p xs place default within = ap (last_that p) (take_more xs place default within) ∙ last_that-push p (take place xs) (get_or xs place default)

module _ {X : Type 0} (p : X → Bool) (xs : List X) (place : ℕ) (default : X) (within : place < length xs) where
  pub last_that-more_passes : p (get_or xs place default) ≡ true → last_that p (take (place + 1) xs) ≡ Some (get_or xs place default)
  last_that-more_passes passes = last_that-more p xs place default within ∙ rw passes refl

  pub last_that-more_fails : p (get_or xs place default) ≡ false → last_that p (take (place + 1) xs) ≡ last_that p (take place xs)
  last_that-more_fails fails = last_that-more p xs place default within ∙ rw fails refl

-- the same where other elements stand before the list
pub behind_more : {X : Type 0} (before xs : List X) (place : ℕ) (default : X) → place < length xs → before ++ take (place + 1) xs ≡ (before ++ take place xs) ++ get_or xs place default ∷ []
behind_more {X = X} before xs place default within = ap (λ (ys : List X). before ++ ys) (take_more xs place default within) ∙ sym (append_assoc before (take place xs) (get_or xs place default ∷ []))

pub behind_none : {X : Type 0} (before xs : List X) → before ++ take 0 xs ≡ before
behind_none {X = X} before xs = append-nil before

module _ {X : Type 0} (p : X → Bool) (before xs : List X) (place : ℕ) (default : X) (within : place < length xs) where
  pub last_that-behind_passes : p (get_or xs place default) ≡ true → last_that p (before ++ take (place + 1) xs) ≡ Some (get_or xs place default)
  last_that-behind_passes passes = ap (last_that p) (behind_more before xs place default within) ∙ last_that-push p (before ++ take place xs) (get_or xs place default) ∙ rw passes refl

  pub last_that-behind_fails : p (get_or xs place default) ≡ false → last_that p (before ++ take (place + 1) xs) ≡ last_that p (before ++ take place xs)
  last_that-behind_fails fails = ap (last_that p) (behind_more before xs place default within) ∙ last_that-push p (before ++ take place xs) (get_or xs place default) ∙ rw fails refl

module _ (inverter : ℕ) (before entries : List Entry) (place : ℕ) (default : Entry) (within : place < length entries) where
  pub requests-behind_link : is_link inverter (get_or entries place default) ≡ true → requests inverter (before ++ take (place + 1) entries) ≡ 0
  requests-behind_link link = ap (requests inverter) (behind_more before entries place default within) ∙ requests-push_link inverter (before ++ take place entries) (get_or entries place default) link

  pub requests-behind : (request : Bool) → is_link inverter (get_or entries place default) ≡ false → is_request inverter (get_or entries place default) ≡ request
      → requests inverter (before ++ take (place + 1) entries) ≡ requests inverter (before ++ take place entries) + cond request 1 0
  requests-behind request other is = ap (requests inverter) (behind_more before entries place default within) ∙ rw (← is) (requests-push inverter (before ++ take place entries) (get_or entries place default) other)

-- the same for the elements up to it
module _ {X : Type 0} (p : X → Bool) (xs : List X) (place : ℕ) (default : X) (within : place < length xs) where
  pub through_last-more_passes : p (get_or xs place default) ≡ true → through_last p (take (place + 1) xs) ≡ take (place + 1) xs
  through_last-more_passes passes = rw (take_more xs place default within) (through_last-push_passes p (take place xs) (get_or xs place default) passes)

  pub through_last-more_fails : p (get_or xs place default) ≡ false → through_last p (take (place + 1) xs) ≡ through_last p (take place xs)
  through_last-more_fails fails = ap (through_last p) (take_more xs place default within) ∙ through_last-push_fails p (take place xs) (get_or xs place default) fails
