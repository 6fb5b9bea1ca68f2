-- The live writes among the entries from a place on.
use Rattle.std.proofs.Common.{◌≡◌, ℕ, ◌+◌, ◌<◌, ◌≤◌, Bool, true, false, cond, not, ◌||◌, List, [], ◌∷◌, ◌++◌, length, take, drop, get_or, refl, sym, ap, ◌∙◌, add-one, append_assoc, arith}
use Rattle.std.specs.Prelude.{filter}
use Rattle.std.proofs.lemmas.List.{take_more, drop_all, length-append}
use Rattle.std.proofs.Math.Seq.{drop-cons}
use Rattle.std.proofs.lemmas.List.Elements.{filter-append}
use Rattle.limiter_num.specs.declared.rules.Rules.{Rules}
use Rattle.plant_book.specs.declared.call.Write as writes
use Rattle.plant_book.specs.declared.book.Entry.{Entry}
use Rattle.plant_book.specs.Writes.{grant_of, ends, ends_later, standing, is_current}

unfoldable pub rest_live : Rules → List Entry → ℕ → ℕ → ℕ → List writes.Write
rest_live rules entries now inverter place = filter (is_current rules now inverter) (standing rules (take place entries) (drop place entries))

module _ (rules : Rules) (entries : List Entry) (place : ℕ) (default : Entry) (within : place < length entries) where
  from_place : drop place entries ≡ get_or entries place default ∷ drop (place + 1) entries
  from_place = rw (add-one) (drop-cons entries place default within)

  -- what the entry at the place grants, where no later one ends it, and the rest
  pub rest_live-step : (now inverter : ℕ) → rest_live rules entries now inverter place
      ≡ filter (is_current rules now inverter) (filter (λ write. not (ends_later rules (take (place + 1) entries) (drop (place + 1) entries) write)) (grant_of (get_or entries place default)))
      ++ rest_live rules entries now inverter (place + 1)
  unfolding rest_live standing
  rest_live-step now inverter =
      let more = take_more entries place default within in
      ap (λ (es : List Entry). filter (is_current rules now inverter) (standing rules (take place entries) es)) from_place
      ∙ filter-append (is_current rules now inverter) (filter (λ write. not (ends_later rules (take place entries ++ get_or entries place default ∷ []) (drop (place + 1) entries) write)) (grant_of (get_or entries place default)))
      (standing rules (take place entries ++ get_or entries place default ∷ []) (drop (place + 1) entries))
      ∙ ap (λ (es : List Entry). filter (is_current rules now inverter) (filter (λ write. not (ends_later rules es (drop (place + 1) entries) write)) (grant_of (get_or entries place default)))
      ++ filter (is_current rules now inverter) (standing rules es (drop (place + 1) entries))) (sym more)

  -- whether the entry at the place ends a write, or a later one
  pub ends_later-step : (write : writes.Write) → ends_later rules (take place entries) (drop place entries) write
      ≡ (ends rules (take place entries) (get_or entries place default) write || ends_later rules (take (place + 1) entries) (drop (place + 1) entries) write)
  unfolding ends_later
  ends_later-step write =
      ap (λ (es : List Entry). ends_later rules (take place entries) es write) from_place
      ∙ ap (λ (es : List Entry). ends rules (take place entries) (get_or entries place default) write || ends_later rules es (drop (place + 1) entries) write) (sym (take_more entries place default within))

-- two filters in either order
filter-swap_step : {X : Type 0} (p q : X → Bool) (x : X) (xs : List X) (a b : Bool) → p x ≡ a → q x ≡ b → filter p (filter q xs) ≡ filter q (filter p xs)
    → filter p (cond b (x ∷ filter q xs) (filter q xs)) ≡ filter q (cond a (x ∷ filter p xs) (filter p xs))
filter-swap_step p q x xs true true pa qb is = rw (pa, qb) (ap (λ (zs : List _). x ∷ zs) is)
filter-swap_step p q x xs true false pa qb is = rw qb is
filter-swap_step p q x xs false true pa qb is = rw pa is
filter-swap_step p q x xs false false pa qb is = is

pub filter-swap : {X : Type 0} (p q : X → Bool) (xs : List X) → filter p (filter q xs) ≡ filter q (filter p xs)
filter-swap p q [] = refl
filter-swap p q (x ∷ xs) = filter-swap_step p q x xs (p x) (q x) refl refl (filter-swap p q xs)

module _ (rules : Rules) (entries : List Entry) (place : ℕ) (default : Entry) (within : place < length entries) (write : writes.Write) where
  pub ends_later-here : ends rules (take place entries) (get_or entries place default) write ≡ true → ends_later rules (take place entries) (drop place entries) write ≡ true
  ends_later-here is = ends_later-step rules entries place default within write ∙ rw is refl

  pub ends_later-next : ends rules (take place entries) (get_or entries place default) write ≡ false
      → ends_later rules (take (place + 1) entries) (drop (place + 1) entries) write ≡ ends_later rules (take place entries) (drop place entries) write
  ends_later-next is = sym (ends_later-step rules entries place default within write ∙ rw is refl)

-- behind the last entry none is left
pub ends_later-none : (rules : Rules) (entries : List Entry) (place : ℕ) (write : writes.Write) → length entries ≤ place → ends_later rules (take place entries) (drop place entries) write ≡ false
unfolding ends_later
ends_later-none rules entries place write past = ap (λ (es : List Entry). ends_later rules (take place entries) es write) (drop_all place entries past)

pub rest_live-none : (rules : Rules) (entries : List Entry) (now inverter place : ℕ) → length entries ≤ place → rest_live rules entries now inverter place ≡ []
unfolding rest_live standing
rest_live-none rules entries now inverter place past = ap (λ (es : List Entry). filter (is_current rules now inverter) (standing rules (take place entries) es)) (drop_all place entries past)

-- one more write that was found, or none, and what is left
pub found_one : {X : Type 0} (found : List X) (one : X) (left rest all : List X) → found ++ left ≡ all → left ≡ (one ∷ []) ++ rest → (found ++ one ∷ []) ++ rest ≡ all
found_one {X = X} found one left rest all is next = append_assoc found (one ∷ []) rest ∙ ap (λ (xs : List X). found ++ xs) (sym next) ∙ is

pub found_room : {X : Type 0} (found : List X) (one : X) (left rest all : List X) → found ++ left ≡ all → left ≡ (one ∷ []) ++ rest → length found < length all
found_room {X = X} found one left rest all is next = omega (arith, ap (λ (xs : List X). length xs) is, ap (λ (xs : List X). length xs) next, length-append found left)
