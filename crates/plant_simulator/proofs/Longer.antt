-- What one more entry, or one more life, adds to what a plant that began at its floors granted and saw.
use Rattle.std.proofs.Common.{◌≡◌, ℕ, ◌+◌, ◌<◌, ◌≤◌, Bool, false, not, ◌||◌, ltb, List, [], ◌∷◌, ◌++◌, length, map, refl, sym, ap, subst, ◌∙◌, append_assoc, arith, inl, inr}
use Rattle.std.specs.Prelude.{filter, Contains}
use Rattle.std.proofs.lemmas.Bool.{cases_eq, eq-eqb, ne_eqb, le-ltb}
use Rattle.std.proofs.lemmas.List.{append-nil, length-append}
use Rattle.std.proofs.lemmas.List.Elements.{Contains-append_cases}
use Rattle.plant_book.specs.declared.call.Write as writes
use Rattle.plant_book.specs.declared.book.Entry.{Entry}
use Rattle.plant_book.specs.Book.{BookRecord}
use Rattle.plant_book.specs.Writes.{grant_of}
use Rattle.plant_book.specs.Answered.{with_entries}
use Rattle.plant_book.specs.History.{History, Grant, Sight, gives_back, is_given_back, life_grants, lives_grants, grants, sight_by, life_sights, lives_sights, sights, is_granted_after}
use Rattle.restart_silence.specs.Chain.{ending_in}
use Rattle.plant_book.proofs.Standing.{filter_all_pass}
use Rattle.plant_book.proofs.Numbers.{grant_at, sight_at}

-- the history of a plant that began at its floors
abbrev pub commissioned : List BookRecord → BookRecord → History
commissioned earlier book = ending_in [] earlier book

abbrev pub made : ℕ → ℕ → writes.Write → Grant
made life place write = record { life = life; place = place; write = write }

-- the entry gives nothing back
abbrev pub KeepsAll : Entry → Type 0
KeepsAll entry = (write : writes.Write) → gives_back entry.call entry.reply write ≡ false

filter_alike : {X : Type 0} (p q : X → Bool) → ((x : X) → p x ≡ q x) → (xs : List X) → filter p xs ≡ filter q xs
filter_alike p q same [] = refl
filter_alike p q same (x ∷ xs) = rw (same x, filter_alike p q same xs) refl

given-push : (entry : Entry) (later : List Entry) (write : writes.Write) → KeepsAll entry → is_given_back (later ++ entry ∷ []) write ≡ is_given_back later write
given-push entry [] write keeps = rw (keeps write) refl
given-push entry (one ∷ later) write keeps = ap (λ (b : Bool). gives_back one.call one.reply write || b) (given-push entry later write keeps)

-- one more entry
pub grants-push : (life place at : ℕ) (entries : List Entry) (entry : Entry) → KeepsAll entry → at ≡ place + length entries
    → life_grants life place (entries ++ entry ∷ []) ≡ life_grants life place entries ++ map (made life at) (grant_of entry)
grants-push life place at [] entry keeps is =
    let same : place ≡ at = omega (arith, is) in
    append-nil _ ∙ ap (map (made life place)) (filter_all_pass (λ write. not (is_given_back [] write)) (λ write. refl) (grant_of entry)) ∙ ap (λ (n : ℕ). map (made life n) (grant_of entry)) same
grants-push life place at (one ∷ entries) entry keeps is =
    let first : filter (λ write. not (is_given_back (entries ++ entry ∷ []) write)) (grant_of one) ≡ filter (λ write. not (is_given_back entries write)) (grant_of one) =
    filter_alike _ _ (λ write. ap not (given-push entry entries write keeps)) (grant_of one) in
    let rest = grants-push life (place + 1) at entries entry keeps (omega (arith, is)) in
    ap (λ (ws : List writes.Write). map (made life place) ws ++ life_grants life (place + 1) (entries ++ entry ∷ [])) first
    ∙ ap (λ (gs : List Grant). map (made life place) (filter (λ write. not (is_given_back entries write)) (grant_of one)) ++ gs) rest
    ∙ sym (append_assoc (map (made life place) (filter (λ write. not (is_given_back entries write)) (grant_of one))) (life_grants life (place + 1) entries) (map (made life at) (grant_of entry)))

pub sights-push : (life place at : ℕ) (before entries : List Entry) (entry : Entry) → at ≡ place + length entries
    → life_sights life place before (entries ++ entry ∷ []) ≡ life_sights life place before entries ++ sight_by life at (before ++ entries) entry.call entry.reply
sights-push life place at before [] entry is =
    let same : place ≡ at = omega (arith, is) in
    append-nil _ ∙ ap (λ (n : ℕ). sight_by life n before entry.call entry.reply) same ∙ ap (λ (es : List Entry). sight_by life at es entry.call entry.reply) (sym (append-nil before))
sights-push life place at before (one ∷ entries) entry is =
    let here = sight_by life place before one.call one.reply in
    let rest = sights-push life (place + 1) at (before ++ one ∷ []) entries entry (omega (arith, is)) in
    ap (λ (ss : List Sight). here ++ ss) rest
    ∙ ap (λ (es : List Entry). here ++ (life_sights life (place + 1) (before ++ one ∷ []) entries ++ sight_by life at es entry.call entry.reply)) (append_assoc before (one ∷ []) entries)
    ∙ sym (append_assoc here (life_sights life (place + 1) (before ++ one ∷ []) entries) (sight_by life at (before ++ one ∷ entries) entry.call entry.reply))

-- the last life's
last_grants : (n k : ℕ) (earlier : List BookRecord) (book : BookRecord) → k ≡ n + length earlier → lives_grants n (earlier ++ book ∷ []) ≡ lives_grants n earlier ++ life_grants k 0 book.entries
last_grants n k [] book is = append-nil _ ∙ ap (λ (m : ℕ). life_grants m 0 book.entries) (omega (arith, is))
last_grants n k (one ∷ earlier) book is =
    let here = life_grants n 0 one.entries in
    ap (λ (gs : List Grant). here ++ gs) (last_grants (n + 1) k earlier book (omega (arith, is))) ∙ sym (append_assoc here (lives_grants (n + 1) earlier) (life_grants k 0 book.entries))

last_sights : (n k : ℕ) (earlier : List BookRecord) (book : BookRecord) → k ≡ n + length earlier → lives_sights n (earlier ++ book ∷ []) ≡ lives_sights n earlier ++ life_sights k 0 [] book.entries
last_sights n k [] book is = append-nil _ ∙ ap (λ (m : ℕ). life_sights m 0 [] book.entries) (omega (arith, is))
last_sights n k (one ∷ earlier) book is =
    let here = life_sights n 0 [] one.entries in
    ap (λ (ss : List Sight). here ++ ss) (last_sights (n + 1) k earlier book (omega (arith, is))) ∙ sym (append_assoc here (lives_sights (n + 1) earlier) (life_sights k 0 [] book.entries))

-- the number of the last life
abbrev pub number_of : List BookRecord → ℕ
number_of earlier = 1 + length earlier

module _ (earlier : List BookRecord) (book : BookRecord) where
  pub grants_are : grants (commissioned earlier book) ≡ lives_grants 1 earlier ++ life_grants (number_of earlier) 0 book.entries
  grants_are = last_grants 1 (number_of earlier) earlier book refl

  pub sights_are : sights (commissioned earlier book) ≡ lives_sights 1 earlier ++ life_sights (number_of earlier) 0 [] book.entries
  sights_are = last_sights 1 (number_of earlier) earlier book refl

  module _ (entry : Entry) (keeps : KeepsAll entry) where
    abbrev after : BookRecord
    after = with_entries book (book.entries ++ entry ∷ [])

    abbrev new_grants : List Grant
    new_grants = map (made (number_of earlier) (length book.entries)) (grant_of entry)

    abbrev new_sights : List Sight
    new_sights = sight_by (number_of earlier) (length book.entries) book.entries entry.call entry.reply

    pub grants_more : grants (commissioned earlier after) ≡ grants (commissioned earlier book) ++ new_grants
    grants_more =
        last_grants 1 (number_of earlier) earlier after refl
        ∙ ap (λ (gs : List Grant). lives_grants 1 earlier ++ gs) (grants-push (number_of earlier) 0 (length book.entries) book.entries entry keeps (omega arith))
        ∙ sym (append_assoc (lives_grants 1 earlier) (life_grants (number_of earlier) 0 book.entries) new_grants)
        ∙ ap (λ (gs : List Grant). gs ++ new_grants) (sym grants_are)

    pub sights_more : sights (commissioned earlier after) ≡ sights (commissioned earlier book) ++ new_sights
    sights_more =
        last_sights 1 (number_of earlier) earlier after refl
        ∙ ap (λ (ss : List Sight). lives_sights 1 earlier ++ ss) (sights-push (number_of earlier) 0 (length book.entries) [] book.entries entry (omega arith))
        ∙ sym (append_assoc (lives_sights 1 earlier) (life_sights (number_of earlier) 0 [] book.entries) new_sights)
        ∙ ap (λ (ss : List Sight). ss ++ new_sights) (sym sights_are)

-- the next life begins with an empty book
module _ (earlier : List BookRecord) (book next : BookRecord) (empty : next.entries ≡ []) where
  pub grants_next : grants (commissioned (earlier ++ book ∷ []) next) ≡ grants (commissioned earlier book)
  grants_next =
      grants_are (earlier ++ book ∷ []) next
      ∙ ap (λ (es : List Entry). lives_grants 1 (earlier ++ book ∷ []) ++ life_grants (number_of (earlier ++ book ∷ [])) 0 es) empty
      ∙ append-nil _

  pub sights_next : sights (commissioned (earlier ++ book ∷ []) next) ≡ sights (commissioned earlier book)
  sights_next =
      sights_are (earlier ++ book ∷ []) next
      ∙ ap (λ (es : List Entry). lives_sights 1 (earlier ++ book ∷ []) ++ life_sights (number_of (earlier ++ book ∷ [])) 0 [] es) empty
      ∙ append-nil _

-- the life and the place of a grant or a sight of lives with these
pub record IsWithin (lives places life place : ℕ) : Type 0 where
  pub from : 1 ≤ life
  pub until : life ≤ lives
  pub sooner : life ≡ lives → place < places

front_shorter : {X : Type 0} (xs front : List X) (x : X) (behind : List X) → xs ≡ front ++ x ∷ behind → length front < length xs
front_shorter {X = X} xs front x behind is = omega (arith, ap (λ (ys : List X). length ys) is, length-append front (x ∷ behind))

grant_lives : (n : ℕ) (books : List BookRecord) (grant : Grant) → Contains (lives_grants n books) grant → (n ≤ grant.life) × (grant.life < n + length books)
grant_lives n [] grant within = absurd (omega (arith, within.1))
grant_lives n (book ∷ books) grant within =
    elim (Contains-append_cases (life_grants n 0 book.entries) (lives_grants (n + 1) books) grant within) [
      | inl here ↦ let at = grant_at n 0 book.entries grant here in (omega (arith, at.in_life), omega (arith, at.in_life))
      | inr later ↦ let rest = grant_lives (n + 1) books grant later in (omega (arith, rest.0), omega (arith, rest.1))
    ]

sight_lives : (n : ℕ) (books : List BookRecord) (sight : Sight) → Contains (lives_sights n books) sight → (n ≤ sight.life) × (sight.life < n + length books)
sight_lives n [] sight within = absurd (omega (arith, within.1))
sight_lives n (book ∷ books) sight within =
    elim (Contains-append_cases (life_sights n 0 [] book.entries) (lives_sights (n + 1) books) sight within) [
      | inl here ↦ let at = sight_at n 0 [] book.entries sight here in (omega (arith, at.in_life), omega (arith, at.in_life))
      | inr later ↦ let rest = sight_lives (n + 1) books sight later in (omega (arith, rest.0), omega (arith, rest.1))
    ]

module _ (earlier : List BookRecord) (book : BookRecord) where
  pub grant_is_within : (grant : Grant) → Contains (grants (commissioned earlier book)) grant → IsWithin (number_of earlier) (length book.entries) grant.life grant.place
  grant_is_within grant within =
      elim (Contains-append_cases (lives_grants 1 earlier) (life_grants (number_of earlier) 0 book.entries) grant (subst (λ (gs : List Grant). Contains gs grant) (grants_are earlier book) within)) [
        | inl sooner ↦ let is = grant_lives 1 earlier grant sooner in record { from = is.0; until = omega (arith, is.1); sooner = λ last. omega (arith, last, is.1) }
        | inr here ↦
            let at = grant_at (number_of earlier) 0 book.entries grant here in
            record { from = omega (arith, at.in_life); until = omega (arith, at.in_life); sooner = λ last. omega (arith, at.in_place, front_shorter book.entries at.front at.entry at.behind at.stand) }
      ]

  pub sight_is_within : (sight : Sight) → Contains (sights (commissioned earlier book)) sight → IsWithin (number_of earlier) (length book.entries) sight.life sight.place
  sight_is_within sight within =
      elim (Contains-append_cases (lives_sights 1 earlier) (life_sights (number_of earlier) 0 [] book.entries) sight (subst (λ (ss : List Sight). Contains ss sight) (sights_are earlier book) within)) [
        | inl sooner ↦ let is = sight_lives 1 earlier sight sooner in record { from = is.0; until = omega (arith, is.1); sooner = λ last. omega (arith, last, is.1) }
        | inr here ↦
            let at = sight_at (number_of earlier) 0 [] book.entries sight here in
            record { from = omega (arith, at.in_life); until = omega (arith, at.in_life); sooner = λ last. omega (arith, at.in_place, front_shorter book.entries at.front at.entry at.behind at.stand) }
      ]

-- no write that was granted so far was granted behind a Saw that comes now
pub none_after : (sight : Sight) (grant : Grant) (lives places : ℕ) → IsWithin lives places grant.life grant.place → sight.life ≡ lives → sight.place ≡ places → is_granted_after sight grant ≡ false
none_after sight grant lives places is life place =
    let low : ltb sight.life grant.life ≡ false = le-ltb sight.life grant.life (omega (arith, is.until, life)) in
    elim (cases_eq sight.life grant.life) [
      | inl same ↦ rw (low, eq-eqb sight.life grant.life same, le-ltb sight.place grant.place (omega (arith, is.sooner (omega (arith, same, life)), place))) refl
      | inr other ↦ rw (low, ne_eqb sight.life grant.life other) refl
    ]
