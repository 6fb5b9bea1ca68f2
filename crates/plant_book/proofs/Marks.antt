-- The mark of the last Cap that was set, after one more entry of a part, and the ceiling by it.
use Rattle.std.proofs.Common.{◌≡◌, ℕ, ◌+◌, ◌<◌, ◌≤◌, max, true, false, leb, List, [], ◌∷◌, ◌++◌, Option, Some, None, refl, ap, ◌∙◌, arith}
use Rattle.std.proofs.lemmas.Bool.{le-leb, lt-leb}
use Rattle.limiter_num.specs.Timers.{reach}
use Rattle.plant_book.specs.declared.book.Entry.{Entry}
use Rattle.plant_book.specs.declared.carry.CapMark as marks
use Rattle.plant_book.specs.Sums.{last_that}
use Rattle.plant_book.specs.Book.{BookRecord}
use Rattle.plant_book.specs.Calls.{moment}
use Rattle.plant_book.specs.Caps.{sets_cap, cap_of}
use Rattle.plant_book.specs.Reserved.{now_of, total_at, total}
use Rattle.plant_book.specs.Ceiling.{total_when_set, ceiling_since}
use Rattle.plant_book.specs.Answered.{with_entries}
use Rattle.plant_book.specs.Carry.{mark_by, mark_of}
use Rattle.plant_book.proofs.Steps.{latest-push, last_that-push, through_last-push_passes, through_last-push_fails}

abbrev pub some_mark : marks.CapMark → Option marks.CapMark
some_mark mark = Some mark

module _ (book : BookRecord) (before : List Entry) (entry : Entry) where
  -- an entry that sets the cap leaves a mark
  pub mark_of-sets : sets_cap entry ≡ true → mark_of (with_entries book (before ++ entry ∷ []))
      ≡ Some (record { at = moment entry.call; was = total_at (with_entries book (before ++ entry ∷ [])) (moment entry.call) })
  unfolding total_when_set now_of
  mark_of-sets sets =
      let last : last_that sets_cap (before ++ entry ∷ []) ≡ Some entry = last_that-push sets_cap before entry ∙ rw sets refl in
      ap (mark_by (with_entries book (before ++ entry ∷ []))) last
      ∙ ap (λ (es : List Entry). some_marked (total (with_entries book es))) (through_last-push_passes sets_cap before entry sets)
      ∙ ap (λ (now : ℕ). some_marked (total_at (with_entries book (before ++ entry ∷ [])) now)) (latest-push book.start before entry)
    where
      some_marked : ℕ → Option marks.CapMark
      some_marked was = Some (record { at = moment entry.call; was = was })

  -- any other leaves the mark as it is
  pub mark_of-stays : sets_cap entry ≡ false → mark_of (with_entries book (before ++ entry ∷ [])) ≡ mark_of (with_entries book before)
  unfolding total_when_set
  mark_of-stays fails =
      let last : last_that sets_cap (before ++ entry ∷ []) ≡ last_that sets_cap before = last_that-push sets_cap before entry ∙ rw fails refl in
      ap (mark_by (with_entries book (before ++ entry ∷ []))) last ∙ by_last (last_that sets_cap before)
    where
      by_last : (last : Option Entry) → mark_by (with_entries book (before ++ entry ∷ [])) last ≡ mark_by (with_entries book before) last
      by_last None = refl
      by_last (Some set) = ap (λ (es : List Entry). some_mark (record { at = moment set.call; was = total (with_entries book es) })) (through_last-push_fails sets_cap before entry fails)

mark_is : (one other : marks.CapMark) → some_mark one ≡ some_mark other → one ≡ other
mark_is one other is = cc

module _ (book : BookRecord) where
  -- within reach of a mark the ceiling is the greater of the cap in force and what was reserved then
  pub ceiling_within : (last : Option Entry) (mark : marks.CapMark) → some_mark mark ≡ mark_by book last → now_of book ≤ mark.at + reach book.site.rules
      → max (cap_of book) mark.was ≡ ceiling_since book last
  ceiling_within None mark is le = absurd cc
  ceiling_within (Some set) mark is le =
      let its = mark_is mark (record { at = moment set.call; was = total_when_set book }) is in
      let at : mark.at ≡ moment set.call = ap (λ (m : marks.CapMark). m.at) its in
      let was : mark.was ≡ total_when_set book = ap (λ (m : marks.CapMark). m.was) its in
      let within : leb (now_of book) (moment set.call + reach book.site.rules) ≡ true = le-leb (now_of book) (moment set.call + reach book.site.rules) (omega (arith, le, at)) in
      rw (within, was) refl

  -- past it the ceiling is the cap in force
  pub ceiling_past : (last : Option Entry) (mark : marks.CapMark) → some_mark mark ≡ mark_by book last → mark.at + reach book.site.rules < now_of book
      → cap_of book ≡ ceiling_since book last
  ceiling_past None mark is lt = absurd cc
  ceiling_past (Some set) mark is lt =
      let its = mark_is mark (record { at = moment set.call; was = total_when_set book }) is in
      let at : mark.at ≡ moment set.call = ap (λ (m : marks.CapMark). m.at) its in
      let past : leb (now_of book) (moment set.call + reach book.site.rules) ≡ false = lt-leb (now_of book) (moment set.call + reach book.site.rules) (omega (arith, lt, at)) in
      rw past refl
