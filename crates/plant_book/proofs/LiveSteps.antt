-- The live writes after one more entry of a part, where it is right behind some entries.
use Rattle.std.proofs.Common.{◌≡◌, ℕ, zero, suc, ◌+◌, ◌<◌, ◌≤◌, leb, List, [], ◌∷◌, ◌++◌, length, take, get_or, refl, sym, ap, subst, ◌∙◌, append_assoc, arith}
use Rattle.std.specs.Prelude.{filter}
use Rattle.std.proofs.lemmas.List.{append-nil, take_all}
use Rattle.limiter_num.specs.Timers.{reach}
use Rattle.plant_book.specs.declared.call.Write as writes
use Rattle.plant_book.specs.declared.book.Entry.{Entry}
use Rattle.plant_book.specs.Calls.{moment, latest}
use Rattle.plant_book.specs.Writes.{live, standing, is_current}
use Rattle.plant_book.specs.Reserved.{now_of}
use Rattle.plant_book.specs.Answered.{EachInTurn, IsAnswer, IsNext}
use Rattle.plant_book.specs.Lifetime.{stays_by, granted_to}
use Rattle.plant_book.specs.Part.{PartRecord, book_behind, book_before, part_first, last_moment_of}
use Rattle.plant_book.specs.Carry.{live_writes, IsBehind}
use Rattle.plant_book.proofs.Steps.{latest-push, behind_more}
use Rattle.plant_book.proofs.Few.{live_few}
use Rattle.plant_book.proofs.Lifetime.{filter-both, current_both, live-next}
use Rattle.plant_book.proofs.Behind.{IsBehind-first, last_moment_of-is}

-- what each entry has in turn, those behind the first ones have
each_behind : (Fact : List Entry → Entry → Type 0) (first before later : List Entry) → EachInTurn Fact first (before ++ later) → EachInTurn Fact (first ++ before) later
each_behind Fact first [] later each = subst (λ (es : List Entry). EachInTurn Fact es later) (sym (append-nil first)) each
each_behind Fact first (entry ∷ before) later each = subst (λ (es : List Entry). EachInTurn Fact es later) (append_assoc first (entry ∷ []) before) (each_behind Fact (first ++ entry ∷ []) before later each.1)

-- and the one at a place
each_at : (Fact : List Entry → Entry → Type 0) (before later : List Entry) (place : ℕ) (default : Entry) → place < length later → EachInTurn Fact before later → Fact (before ++ take place later) (get_or later place default)
each_at Fact before [] place default within each = absurd (omega (arith, within))
each_at Fact before (entry ∷ later) zero default within each = subst (λ (es : List Entry). Fact es entry) (sym (append-nil before)) each.0
each_at Fact before (entry ∷ later) (suc place) default within each =
    subst (λ (es : List Entry). Fact es (get_or later place default)) (append_assoc before (entry ∷ []) (take place later))
    (each_at Fact (before ++ entry ∷ []) later place default (omega (arith, within)) each.1)

module _ (part : PartRecord) (before : List Entry) (is : IsBehind before part) where
  -- no more than 32 writes are live
  pub few_first : (count inverter : ℕ) → length (live_writes (book_behind before (part_first part count)) inverter) ≤ 32
  few_first count inverter =
      let first = IsBehind-first part before count is in
      live_few (book_behind before (part_first part count)) first.book (now_of (book_behind before (part_first part count))) inverter (omega arith)

  -- what was live before the part is live at its begin
  pub live_before : (inverter : ℕ) → live_writes (book_before before part) inverter ≡ live_writes (book_behind before (part_first part 0)) inverter
  unfolding now_of
  live_before inverter = ap (λ (es : List Entry). live part.site.rules es (latest part.start es) inverter) (sym (append-nil before))

  module _ (place : ℕ) (default : Entry) (within : place < length part.entries) where
    pub right_at : IsAnswer (book_behind before part) (before ++ take place part.entries) (get_or part.entries place default)
    right_at = each_at (IsAnswer (book_behind before part)) before part.entries place default within (each_behind (IsAnswer (book_behind before part)) [] before part.entries is.book.answered)

    pub next_at : IsNext part.site part.start (before ++ take place part.entries) (get_or part.entries place default).call
    next_at =
        let Fact : List Entry → Entry → Type 0 = λ es entry. IsNext part.site part.start es entry.call in
        each_at Fact before part.entries place default within (each_behind Fact [] before part.entries is.book.entered)

    -- the live writes after the entry: those that it leaves, and the one that it grants
    pub live_next : (inverter : ℕ) → live_writes (book_behind before (part_first part (place + 1))) inverter
        ≡ filter (stays_by part.site.rules (before ++ take place part.entries) (get_or part.entries place default)) (live_writes (book_behind before (part_first part place)) inverter)
        ++ granted_to inverter (get_or part.entries place default)
    unfolding now_of
    live_next inverter =
        let rules = part.site.rules in
        let old = before ++ take place part.entries in
        let entry = get_or part.entries place default in
        let at : latest part.start (old ++ entry ∷ []) ≡ moment entry.call = latest-push part.start old entry in
        ap (λ (es : List Entry). live rules es (latest part.start es) inverter) (behind_more before part.entries place default within)
        ∙ ap (λ (now : ℕ). live rules (old ++ entry ∷ []) now inverter) at
        ∙ live-next (book_behind before part) old entry right_at next_at.later inverter
        ∙ ap (λ (ws : List writes.Write). ws ++ granted_to inverter entry)
        (filter-both _ _ (stays_by rules old entry) (λ write. refl) (live rules old (latest part.start old) inverter))

  -- the writes that are live later are those of the last moment that are not past
  pub live_later : (count now inverter : ℕ) → last_moment_of (part_first part count) ≤ now
      → live part.site.rules (before ++ take count part.entries) now inverter ≡ filter (λ write. leb now (write.at + reach part.site.rules)) (live_writes (book_behind before (part_first part count)) inverter)
  unfolding live now_of
  live_later count now inverter le =
      let rules = part.site.rules in
      let es = before ++ take count part.entries in
      let old = latest part.start es in
      let from : old ≤ now = omega (arith, le, last_moment_of-is (part_first part count) before (IsBehind-first part before count is)) in
      sym (filter-both (λ (write : writes.Write). leb now (write.at + reach rules)) (is_current rules old inverter) (is_current rules now inverter) (λ write. current_both rules old now inverter write from) (standing rules [] es))

  pub whole_first : book_behind before (part_first part (length part.entries)) ≡ book_behind before part
  whole_first = ap (λ (es : List Entry). book_behind before (record { site = part.site; start = part.start; carry = part.carry; entries = es })) (take_all (length part.entries) part.entries (omega arith))
