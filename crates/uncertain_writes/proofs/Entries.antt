-- An inverter's live writes from one moment to a later one, after one more entry, and after all of a book.
use Rattle.std.proofs.Common.{◌≡◌, ℕ, ◌≤◌, Bool, true, false, not, ◌&&◌, eqb, List, [], ◌∷◌, ◌++◌, refl, sym, ap, subst, ◌∙◌, append_assoc, arith, inl, inr}
use Rattle.std.specs.Prelude.{filter}
use Rattle.std.proofs.lemmas.Bool.{le-leb, lt-leb, lt-ltb, le-ltb, cases_lt, and_right}
use Rattle.std.proofs.lemmas.List.{append-nil}
use Rattle.std.proofs.lemmas.List.Elements.{filter-append}
use Rattle.limiter_num.specs.declared.rules.Rules.{Rules}
use Rattle.limiter_num.specs.Timers.{last_moment}
use Rattle.plant_book.specs.declared.call.Reply.{Reply}
use Rattle.plant_book.specs.declared.call.Write as writes
use Rattle.plant_book.specs.declared.book.Entry.{Entry}
use Rattle.plant_book.specs.Book.{BookRecord}
use Rattle.plant_book.specs.Calls.{moment, latest}
use Rattle.plant_book.specs.Requests.{pending_read}
use Rattle.plant_book.specs.Writes.{grant_of, ends, standing, is_current, live}
use Rattle.plant_book.specs.Reserved.{now_of}
use Rattle.plant_book.specs.Answered.{EachInTurn, IsAnswer, IsNext, IsBook}
use Rattle.plant_book.proofs.Steps.{latest-push}
use Rattle.plant_book.proofs.Standing.{standing-push}
use Rattle.uncertain_writes.specs.Live.{is_past, without}
use Rattle.uncertain_writes.specs.Calls.{after_reply, after_entry, after_entries, live_by_calls}
use Rattle.uncertain_writes.proofs.Lists.{filter-filter}
use Rattle.uncertain_writes.proofs.Pending.{PendsOwn, PendsOwn-push, PendsOwn-nil}
use Rattle.uncertain_writes.proofs.Replies.{IsFollowed, followed}

both_fail : (a b : Bool) → (a && false) ≡ (b && false)
both_fail a b = and_right a false refl ∙ sym (and_right b false refl)

passes_twice : (a : Bool) → (a && true) ≡ ((a && true) && true)
passes_twice true = refl
passes_twice false = refl

-- a write is current at a later moment where it was so before and isn't past by then
current_later : (rules : Rules) (now later inverter : ℕ) → now ≤ later → (write : writes.Write)
    → is_current rules later inverter write ≡ (is_current rules now inverter write && not (is_past rules later write))
current_later rules now later inverter le write =
    let last = last_moment rules write.at in
    elim (cases_lt last later) [
      | inl past ↦ rw (lt-leb later last past, lt-ltb last later past) (both_fail (eqb write.inverter inverter) (is_current rules now inverter write))
      | inr still ↦ rw (le-leb later last still, le-leb now last (omega arith), le-ltb last later still) (passes_twice (eqb write.inverter inverter))
    ]

-- at a later moment those are live that were so before and aren't past by then
pub live-later : (rules : Rules) (entries : List Entry) (now later inverter : ℕ) → now ≤ later
    → live rules entries later inverter ≡ without (is_past rules later) (live rules entries now inverter)
unfolding live
live-later rules entries now later inverter le =
    sym (filter-filter (is_current rules now inverter) (λ write. not (is_past rules later write)) (is_current rules later inverter)
    (current_later rules now later inverter le) (standing rules [] entries))

-- after one more entry
pub live-entry : (book : BookRecord) (before : List Entry) (entry : Entry) (now inverter : ℕ) → PendsOwn before → IsAnswer book before entry → now ≤ moment entry.call
    → live book.site.rules (before ++ entry ∷ []) (moment entry.call) inverter
    ≡ after_entry book.site.rules inverter before entry (live book.site.rules before now inverter)
unfolding live
live-entry book before entry now inverter pends answer le =
    let rules = book.site.rules in
    let at = moment entry.call in
    let all = standing rules [] before in
    let current : writes.Write → Bool = λ write. is_current rules at inverter write in
    let P : Reply → Type 0 = IsFollowed rules before inverter at all entry.call in
    let step : IsFollowed rules before inverter at all entry.call entry.reply = subst P (sym answer) (followed book before inverter all pends entry.call) in
    let after : List writes.Write → List writes.Write = λ its. after_reply rules inverter (pending_read inverter before) entry.call entry.reply its in
    ap (filter current) (standing-push rules [] before entry)
    ∙ filter-append current (filter (λ write. not (ends rules before entry write)) all) (grant_of entry)
    ∙ sym step.is
    ∙ ap after (live-later rules before now at inverter le)

-- after the later entries of a book
live-entries : (book : BookRecord) (before later : List Entry) (inverter : ℕ) → PendsOwn before → EachInTurn (IsAnswer book) before later
    → EachInTurn (λ es entry. IsNext book.site book.start es entry.call) before later
    → after_entries book.site.rules inverter before later (live book.site.rules before (latest book.start before) inverter)
    ≡ live book.site.rules (before ++ later) (latest book.start (before ++ later)) inverter
unfolding after_entries
live-entries book before [] inverter pends right next =
    ap (λ (es : List Entry). live book.site.rules es (latest book.start es) inverter) (sym (append-nil before))
live-entries book before (entry ∷ later) inverter pends right next =
    let rules = book.site.rules in
    let more = before ++ entry ∷ [] in
    let now : latest book.start more ≡ moment entry.call = latest-push book.start before entry in
    let step = live-entry book before entry (latest book.start before) inverter pends right.0 next.0.later in
    let after : List writes.Write → List writes.Write = λ its. after_entries rules inverter more later its in
    ap after (sym step ∙ ap (λ (at : ℕ). live rules more at inverter) (sym now))
    ∙ live-entries book more later inverter (PendsOwn-push book before entry pends right.0) right.1 next.1
    ∙ ap (λ (es : List Entry). live rules es (latest book.start es) inverter) (append_assoc before (entry ∷ []) later)

-- a book without entries has no live write
pub no_live : (rules : Rules) (now inverter : ℕ) → live rules [] now inverter ≡ []
unfolding live standing
no_live rules now inverter = refl

-- after all entries of a book
pub live-book : (book : BookRecord) (now inverter : ℕ) → IsBook book → now_of book ≤ now
    → live_by_calls book.site.rules book.entries now inverter ≡ live book.site.rules book.entries now inverter
unfolding now_of
live-book book now inverter kept le =
    let rules = book.site.rules in
    let past : List writes.Write → List writes.Write = λ its. without (is_past rules now) its in
    let after : List writes.Write → List writes.Write = λ its. after_entries rules inverter [] book.entries its in
    ap past (ap after (sym (no_live rules (latest book.start []) inverter)) ∙ live-entries book [] book.entries inverter PendsOwn-nil kept.answered kept.entered)
    ∙ sym (live-later rules book.entries (latest book.start book.entries) now inverter le)
