-- The entries that passes made among deeds, by their places.
use Rattle.std.proofs.Common.{◌≡◌, ◌≢◌, ℕ, zero, suc, ◌+◌, ◌<◌, ◌≤◌, eqb, cond, Bool, true, false, List, [], ◌∷◌, ◌++◌, length, map, Some, refl, sym, subst, append_assoc, arith, eq-eqb, ne_eqb, ⊎_elim}
use Rattle.std.specs.Prelude.{All, Contains, slice_get, slice_index}
use Rattle.std.specs.List.Sorted.{IsStrictlyIncreasing}
use Rattle.std.proofs.lemmas.List.{length_push}
use Rattle.std.proofs.lemmas.List.Elements.{All-nil, All-head, All-tail, All-map, All-contains, Contains-append_right, Contains-append_cases}
use Rattle.plant_book.specs.declared.book.Entry.{Entry}
use Rattle.plant_desk.specs.declared.deed.Deed.{Deed}
use Rattle.plant_desk.specs.declared.deed.Deed.TheVariants.{Entered, Rolled}
use Rattle.plant_desk.specs.Deeds.{author, Placed, entries_by}
use Rattle.plant_desk.proofs.Passes.{calls_in}
use Rattle.plant_desk.proofs.Later.{entries_in, one_more, places-from}
use mathlib.Core.Logic.{dite}
use native.Mathlib.Decide.{ℕ_discrete}

abbrev pub place_of : Placed → ℕ
place_of placed = placed.place

pub length-entries_in : (deeds : List Deed) → length (entries_in deeds) ≡ calls_in deeds
length-entries_in [] = refl
length-entries_in (Entered by entry ∷ deeds) = omega (arith, length-entries_in deeds)
length-entries_in (Rolled by ∷ deeds) = length-entries_in deeds

-- each of a pass's entries is where it came
get-seam : {A : Type 0} (xs ys : List A) (x : A) → slice_get (xs ++ x ∷ ys) (length xs) ≡ Some x
get-seam [] ys x = refl
get-seam (y ∷ xs) ys x = get-seam xs ys x

abbrev pub At : List Entry → Placed → Type 0
At entries placed = slice_get entries placed.place ≡ Some placed.entry

pub entries_at : (number : ℕ) (before : List Entry) (deeds : List Deed) → All (At (before ++ entries_in deeds)) (entries_by number (length before) deeds)
entries_at number before [] = All-nil (At (before ++ []))
entries_at number before (Entered by entry ∷ deeds) =
    let all : List Entry = before ++ entry ∷ entries_in deeds in
    let rest = subst (λ (es : List Entry). All (At es) (entries_by number (length (before ++ entry ∷ [])) deeds)) (append_assoc before (entry ∷ []) (entries_in deeds)) (entries_at number (before ++ entry ∷ []) deeds) in
    one_more (At all) (eqb by number) (record { place = length before; entry = entry }) (entries_by number (length before + 1) deeds) (get-seam before (entries_in deeds) entry)
    (subst (λ (n : ℕ). All (At all) (entries_by number n deeds)) (length_push before entry) rest)
entries_at number before (Rolled by ∷ deeds) = entries_at number before deeds

-- and their places rise
rise-cons : (x : ℕ) (xs : List ℕ) → All (λ y. x < y) xs → IsStrictlyIncreasing xs → IsStrictlyIncreasing (x ∷ xs)
rise-cons x [] above up k lt = absurd (omega arith)
rise-cons x (y ∷ ys) above up zero lt = above 0 y (omega arith)
rise-cons x (y ∷ ys) above up (suc k) lt =
    let next : suc (k + 1) ≡ suc k + 1 = omega arith in
    subst (λ (n : ℕ). slice_index (y ∷ ys) k < slice_index (x ∷ y ∷ ys) n) next (up k (omega arith))

rise-more : (b : Bool) (x : Placed) (xs : List Placed) → All (λ (p : Placed). x.place < p.place) xs → IsStrictlyIncreasing (map place_of xs) → IsStrictlyIncreasing (map place_of (cond b (x ∷ xs) xs))
rise-more true x xs above up = rise-cons x.place (map place_of xs) (All-map (λ n. x.place < n) place_of xs above) up
rise-more false x xs above up = up

pub places-rise : (number place : ℕ) (deeds : List Deed) → IsStrictlyIncreasing (map place_of (entries_by number place deeds))
places-rise number place [] = λ k lt. absurd (omega arith)
places-rise number place (Entered by entry ∷ deeds) =
    rise-more (eqb by number) (record { place = place; entry = entry }) (entries_by number (place + 1) deeds) (λ k d lt. let above = places-from number (place + 1) deeds k d lt in omega arith)
    (places-rise number (place + 1) deeds)
places-rise number place (Rolled by ∷ deeds) = places-rise number place deeds

-- the pass of whose entries one has this place, and no other's
pub record AuthorAt (Signed : ℕ → Type 0) (place at : ℕ) (deeds : List Deed) : Type 0 where
  pub number : ℕ
  pub signed : Signed number
  pub made : Contains (map place_of (entries_by number place deeds)) at
  pub only : (other : ℕ) → Contains (map place_of (entries_by other place deeds)) at → other ≡ number

module _ (x : Placed) (xs : List Placed) (at : ℕ) where
  abbrev In : Bool → Type 0
  In b = Contains (map place_of (cond b (x ∷ xs) xs)) at

  here : x.place ≡ at → In true
  here same = (0, omega arith, same)

  with_more : (b : Bool) → Contains (map place_of xs) at → In b
  with_more true in_rest = Contains-append_right (x.place ∷ []) (map place_of xs) at in_rest
  with_more false in_rest = in_rest

  in_rest : (b : Bool) → x.place ≢ at → In b → Contains (map place_of xs) at
  in_rest true apart inside = ⊎_elim
      (λ (one : Contains (x.place ∷ []) at). absurd (apart (only_one one)))
      (λ (rest : Contains (map place_of xs) at). rest)
      (Contains-append_cases (x.place ∷ []) (map place_of xs) at inside)
    where
      only_one : Contains (x.place ∷ []) at → x.place ≡ at
      only_one (zero, lt, is) = is
      only_one (suc k, lt, is) = absurd (omega arith)
  in_rest false apart inside = inside

pub author_at : (Signed : ℕ → Type 0) (place at : ℕ) (deeds : List Deed) → place ≤ at → at < place + calls_in deeds → All (λ deed. Signed (author deed)) deeds → AuthorAt Signed place at deeds
author_at Signed place at [] low high signed = absurd (omega arith)
author_at Signed place at (Entered by entry ∷ deeds) low high signed =
    let x : Placed = record { place = place; entry = entry } in
    let rest : ℕ → List Placed = λ number. entries_by number (place + 1) deeds in
    dite (ℕ_discrete place at)
    (λ (same : place ≡ at). record {
      number = by;
      signed = All-head (λ deed. Signed (author deed)) (Entered by entry) deeds signed;
      made = subst (In x (rest by) at) (sym (eq-eqb by by refl)) (here x (rest by) at same);
      only = λ other inside. dite (ℕ_discrete by other) (λ (is : by ≡ other). sym is)
          (λ (isnt : by ≢ other).
          let late = subst (In x (rest other) at) (ne_eqb by other isnt) inside in
          let above : place + 1 ≤ at = All-contains (λ n. place + 1 ≤ n) (map place_of (rest other)) at (All-map (λ n. place + 1 ≤ n) place_of (rest other) (places-from other (place + 1) deeds)) late in
          absurd (omega arith));
    })
    (λ (apart : place ≢ at).
    let i = author_at Signed (place + 1) at deeds (omega arith) (omega arith) (All-tail (λ deed. Signed (author deed)) (Entered by entry) deeds signed) in
    record {
      number = i.number;
      signed = i.signed;
      made = with_more x (rest i.number) at (eqb by i.number) i.made;
      only = λ other inside. i.only other (in_rest x (rest other) at (eqb by other) apart inside);
    })
author_at Signed place at (Rolled by ∷ deeds) low high signed =
    let i = author_at Signed place at deeds low high (All-tail (λ deed. Signed (author deed)) (Rolled by) deeds signed) in
    record { number = i.number; signed = i.signed; made = i.made; only = i.only }
