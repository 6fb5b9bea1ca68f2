-- No more than 32 writes of an inverter are live at a moment from the last of a book on.
use Rattle.std.proofs.Common.{◌≡◌, ℕ, ◌+◌, ◌<◌, ◌≤◌, Bool, true, not, eqb, leb, List, [], ◌∷◌, ◌++◌, length, refl, sym, ap, subst, ◌∙◌, append_assoc, arith, inl, inr}
use Rattle.std.specs.Prelude.{filter}
use Rattle.std.proofs.lemmas.Bool.{cases_Bool, cases_eq, and_left, ne_eqb}
use Rattle.std.proofs.lemmas.List.{append-nil, length-append}
use Rattle.limiter_num.specs.Timers.{reach}
use Rattle.plant_book.specs.declared.call.Reply.TheVariants as replies
use Rattle.plant_book.specs.declared.call.Write as writes
use Rattle.plant_book.specs.declared.book.Entry.{Entry}
use Rattle.plant_book.specs.Book.{BookRecord}
use Rattle.plant_book.specs.Calls.{moment, latest}
use Rattle.plant_book.specs.Writes.{grant_of, granted, ends, standing, is_current, live}
use Rattle.plant_book.specs.Reserved.{now_of}
use Rattle.plant_book.specs.Answered.{EachInTurn, IsAnswer, IsNext, IsBook, with_entries}
use Rattle.plant_book.proofs.Steps.{latest-push}
use Rattle.plant_book.proofs.Granting.{granted_is_covered}
use Rattle.plant_book.proofs.Cap.{live-push, current_before, grant_cases}

module _ {X : Type 0} where
  -- a filter that passes less keeps no more
  length-filter_le : (p q : X → Bool) → ((x : X) → p x ≡ true → q x ≡ true) → (xs : List X) → length (filter p xs) ≤ length (filter q xs)
  length-filter_le p q implies [] = omega arith
  length-filter_le p q implies (x ∷ xs) =
      elim (cases_Bool (p x)) [
        | inl passes ↦ rw (passes, implies x passes) (omega (arith, length-filter_le p q implies xs))
        | inr fails ↦ elim (cases_Bool (q x)) [
          | inl more ↦ rw (fails, more) (omega (arith, length-filter_le p q implies xs))
          | inr same ↦ rw (fails, same) (length-filter_le p q implies xs)
        ]
      ]

  -- what is left out before a filter leaves no more either
  length-filter_filtered : (p q : X → Bool) (xs : List X) → length (filter q (filter p xs)) ≤ length (filter q xs)
  length-filter_filtered p q [] = omega arith
  length-filter_filtered p q (x ∷ xs) =
      elim (cases_Bool (p x)) [
        | inl stays ↦ elim (cases_Bool (q x)) [
          | inl passes ↦ rw (stays, passes) (omega (arith, length-filter_filtered p q xs))
          | inr fails ↦ rw (stays, fails) (length-filter_filtered p q xs)
        ]
        | inr goes ↦ elim (cases_Bool (q x)) [
          | inl passes ↦ rw (goes, passes) (omega (arith, length-filter_filtered p q xs))
          | inr fails ↦ rw (goes, fails) (length-filter_filtered p q xs)
        ]
      ]

  -- what passes and what doesn't are all
  pub length-filter_not : (p : X → Bool) (xs : List X) → length (filter p xs) + length (filter (λ x. not (p x)) xs) ≡ length xs
  length-filter_not p [] = refl
  length-filter_not p (x ∷ xs) =
      elim (cases_Bool (p x)) [
        | inl passes ↦ rw passes (omega (arith, length-filter_not p xs))
        | inr fails ↦ rw fails (omega (arith, length-filter_not p xs))
      ]

-- few writes are live from the last moment of these entries on
abbrev IsFew : BookRecord → List Entry → Type 0
IsFew book entries = (now inverter : ℕ) → latest book.start entries ≤ now → length (live book.site.rules entries now inverter) ≤ 32

module _ (book : BookRecord) (before : List Entry) (entry : Entry) (few : IsFew book before) (right : IsAnswer book before entry) (later : latest book.start before ≤ moment entry.call) where
  module _ (now inverter : ℕ) (le : moment entry.call ≤ now) where
    -- what is left of the writes before is no more than was live at the call
    left_few : length (filter (is_current book.site.rules now inverter) (filter (λ write. not (ends book.site.rules before entry write)) (standing book.site.rules [] before)))
        ≤ length (live book.site.rules before (moment entry.call) inverter)
    unfolding live
    left_few =
        omega (
          arith,
          length-filter_filtered (λ write. not (ends book.site.rules before entry write)) (is_current book.site.rules now inverter) (standing book.site.rules [] before),
          length-filter_le (is_current book.site.rules now inverter) (is_current book.site.rules (moment entry.call) inverter)
              (λ write is. current_before book.site.rules (moment entry.call) now inverter write le is) (standing book.site.rules [] before),
        )

    all_few : length (live book.site.rules (before ++ entry ∷ []) now inverter)
        ≡ length (filter (is_current book.site.rules now inverter) (filter (λ write. not (ends book.site.rules before entry write)) (standing book.site.rules [] before)))
        + length (filter (is_current book.site.rules now inverter) (grant_of entry))
    all_few = ap (λ (ws : List writes.Write). length ws) (live-push book before entry (moment entry.call) now le inverter) ∙ length-append _ (filter (is_current book.site.rules now inverter) (grant_of entry))

    few_by_none : filter (is_current book.site.rules now inverter) (grant_of entry) ≡ [] → length (live book.site.rules (before ++ entry ∷ []) now inverter) ≤ 32
    few_by_none none = omega (arith, all_few, left_few, few (moment entry.call) inverter later, ap (λ (ws : List writes.Write). length ws) none)

    few_by_grant : (write : writes.Write) → entry.reply ≡ replies.Granted write → length (live book.site.rules (before ++ entry ∷ []) now inverter) ≤ 32
    few_by_grant write grants =
        let one : grant_of entry ≡ write ∷ [] = ap granted grants in
        let covered = granted_is_covered (with_entries book before) entry.call write (sym right ∙ grants) in
        elim (cases_eq write.inverter inverter) [
          | inl its ↦
              let fewer : length (filter (is_current book.site.rules now inverter) (grant_of entry)) ≤ 1 =
              rw one (omega (arith, length-filter_le (is_current book.site.rules now inverter) (λ w. true) (λ w is. refl) (write ∷ []))) in
              let room = subst (λ (i : ℕ). length (live book.site.rules before (moment entry.call) i) < 32) its covered.room in
              omega (arith, all_few, left_few, fewer, room)
          | inr other ↦ few_by_none (rw (one, and_left (eqb write.inverter inverter) (leb now (write.at + reach book.site.rules)) (ne_eqb write.inverter inverter other)) refl)
        ]

  few-push : IsFew book (before ++ entry ∷ [])
  few-push now inverter from =
      let le : moment entry.call ≤ now = subst (λ (m : ℕ). m ≤ now) (latest-push book.start before entry) from in
      elim (grant_cases entry.reply) [
        | inl grant ↦ few_by_grant now inverter le grant.0 grant.1
        | inr none ↦ few_by_none now inverter le (ap (filter (is_current book.site.rules now inverter)) none)
      ]

few_along : (book : BookRecord) (before later : List Entry) → IsFew book before → EachInTurn (IsAnswer book) before later → EachInTurn (λ es entry. IsNext book.site book.start es entry.call) before later → IsFew book (before ++ later)
few_along book before [] few right next = subst (IsFew book) (sym (append-nil before)) few
few_along book before (entry ∷ later) few right next =
    subst (IsFew book) (append_assoc before (entry ∷ []) later)
    (few_along book (before ++ entry ∷ []) later (few-push book before entry few right.0 next.0.later) right.1 next.1)

few_empty : (book : BookRecord) → IsFew book []
unfolding live standing
few_empty book now inverter le = omega arith

pub live_few : (book : BookRecord) → IsBook book → (now inverter : ℕ) → now_of book ≤ now → length (live book.site.rules book.entries now inverter) ≤ 32
unfolding now_of
live_few book kept now inverter le = few_along book [] book.entries (few_empty book) kept.answered kept.entered now inverter le
