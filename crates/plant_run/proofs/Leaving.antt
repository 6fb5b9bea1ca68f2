-- The live writes of an inverter in a book are those that are live by the calls of its worker.
use Rattle.std.proofs.Common.{◌≡◌, ℕ, ◌≤◌, Bool, true, false, cond, not, ◌&&◌, ◌||◌, eqb, ltb, leb, List, [], ◌∷◌, ◌++◌, Option, Some, None, refl, sym, ap, subst, ◌∙◌, append_assoc, arith, inl, inr}
use Rattle.std.specs.Prelude.{filter, Contains}
use Rattle.std.specs.List.{AllByRecursion}
use Rattle.std.proofs.lemmas.Bool.{cases_Bool, eqb-true, eqb-false, eq-eqb, ne_eqb, le-leb, and_from, and_left, and_right, and_parts}
use Rattle.std.proofs.lemmas.List.{append-nil}
use Rattle.std.proofs.lemmas.List.Elements.{filter-append, Contains-push, Contains-append_left, Contains-append_right}
use Rattle.limiter_num.specs.declared.rules.Rules.{Rules}
use Rattle.limiter_num.specs.Timers.{last_moment, last_act}
use Rattle.plant_book.specs.declared.call.Call.{Call}
use Rattle.plant_book.specs.declared.call.Call.TheVariants as call
use Rattle.plant_book.specs.declared.call.Reply.{Reply}
use Rattle.plant_book.specs.declared.call.Reply.TheVariants as reply
use Rattle.plant_book.specs.declared.call.Read as reads
use Rattle.plant_book.specs.declared.call.Write as writes
use Rattle.plant_book.specs.declared.book.Entry.{Entry}
use Rattle.plant_book.specs.Book.{BookRecord}
use Rattle.plant_book.specs.Calls.{at_moment}
use Rattle.plant_book.specs.Sums.{last_that}
use Rattle.plant_book.specs.Requests.{changes_by, changes_pending, read_of, pending_after, pending_read}
use Rattle.plant_book.specs.Writes.{granted, grant_of, settles, frees, is_numbered, is_taken, is_freed, ends, ends_by, ends_later, standing, is_current, live}
use Rattle.plant_book.specs.Reserved.{covering, reserved_at}
use Rattle.plant_book.specs.Answer.{reply_to}
use Rattle.plant_book.specs.Answered.{EachInTurn, IsAnswer, IsAnswered, with_entries}
use Rattle.plant_book.proofs.Steps.{last_that-push}
use Rattle.plant_book.proofs.Numbers.{read_inverter}
use Rattle.plant_book.proofs.Freeing.{Contains-filter, Contains-filtered}
use Rattle.plant_book.proofs.Cover.{standing_le_reserved}
use Rattle.ledger_desk.specs.Calls.{IsReplyTo}
use Rattle.ledger_desk.proofs.Replies.{replies_fit}
use Rattle.inverter_worker.specs.declared.output.Output.TheVariants as output
use Rattle.inverter_worker.specs.Runs.{RunStep}
use Rattle.inverter_worker.specs.Turns.{readings}
use Rattle.world_traits.specs.Links.{Links}
use Rattle.worker_turn.specs.Agreeing.{IsEntryOf, AreEntriesOf, calls_made}
use Rattle.worker_turn.specs.Doing.{World}
use Rattle.worker_turn.specs.Worker.{WorkerRecord}
use Rattle.worker_turn.proofs.Agreeing.{entered}
use Rattle.plant_run.specs.Own.{is_workers, entries_of, own_world}
use Rattle.plant_run.specs.Works.{Works}
use Rattle.plant_run.specs.Left.{HasLeft, StaysReserved, AreLeftBy}

-- the pending read behind one more entry
pending_next : (inverter : ℕ) (before : List Entry) (entry : Entry)
    → pending_read inverter (before ++ entry ∷ []) ≡ cond (changes_pending inverter entry) (read_of entry.reply) (pending_read inverter before)
unfolding pending_read
pending_next inverter before entry =
    ap pending_after (last_that-push (changes_pending inverter) before entry) ∙ either (changes_pending inverter entry)
  where
    either : (b : Bool) → pending_after (cond b (Some entry) (last_that (changes_pending inverter) before))
        ≡ cond b (read_of entry.reply) (pending_after (last_that (changes_pending inverter) before))
    either true = refl
    either false = refl

-- before the first entry no read is pending
no_pending : (inverter : ℕ) → pending_read inverter [] ≡ None
unfolding pending_read last_that
no_pending inverter = refl

-- each pending read is of the inverter for which it is pending
abbrev AreOwn : List Entry → Type 0
AreOwn entries = (inverter : ℕ) (read : reads.Read) → pending_read inverter entries ≡ Some read → read.inverter ≡ inverter

-- so it is before the first entry
own_none : AreOwn []
own_none inverter read is = absurd (let never = sym (no_pending inverter) ∙ is in cc)

-- a reply that makes a read pending numbers it
is_read : (answer : Reply) (read : reads.Read) → read_of answer ≡ Some read → answer ≡ reply.ReadAs read
is_read (reply.ReadAs made) read is = ap (λ (r : reads.Read). reply.ReadAs r) (some_alike made read is)
  where
    some_alike : (a b : reads.Read) → Some a ≡ Some b → a ≡ b
    some_alike a b is = cc
is_read answer read is = absurd cc

-- and so it is behind one more entry with the right reply
own_next : (book : BookRecord) (before : List Entry) (entry : Entry) → IsAnswer book before entry → AreOwn before → AreOwn (before ++ entry ∷ [])
own_next book before entry right own inverter read is =
    by (changes_pending inverter entry) refl (sym (pending_next inverter before entry) ∙ is)
  where
    by : (b : Bool) → changes_pending inverter entry ≡ b → cond b (read_of entry.reply) (pending_read inverter before) ≡ Some read → read.inverter ≡ inverter
    by true changes is = read_inverter inverter (with_entries book before) entry.call entry.reply read right changes (is_read entry.reply read is)
    by false changes is = own inverter read is

-- an element that fails the outer test goes, whatever the inner one says
filter_failing : {X : Type 0} (test : X → Bool) (x : X) (b : Bool) (xs : List X) → test x ≡ false → filter test (cond b (x ∷ xs) xs) ≡ filter test xs
filter_failing test x true xs fails = rw fails refl
filter_failing test x false xs fails = refl

-- an element put before both lists, or before neither
filter_kept : {X : Type 0} (test : X → Bool) (x : X) (b : Bool) (xs ys : List X) → filter test xs ≡ filter test ys
    → filter test (cond b (x ∷ xs) xs) ≡ filter test (cond b (x ∷ ys) ys)
filter_kept {X = X} test x true xs ys same = ap (λ (zs : List X). cond (test x) (x ∷ zs) zs) same
filter_kept test x false xs ys same = same

-- two tests that agree on what passes another keep the same of it
filter_under : {X : Type 0} (test p q : X → Bool) → ((x : X) → test x ≡ true → p x ≡ q x) → (xs : List X) → filter test (filter p xs) ≡ filter test (filter q xs)
filter_under test p q same [] = refl
filter_under test p q same (x ∷ xs) =
    let rest = filter_under test p q same xs in
    elim (cases_Bool (test x)) [
      | inl passes ↦ rw (same x passes) (filter_kept test x (q x) (filter p xs) (filter q xs) rest)
      | inr fails ↦ filter_failing test x (p x) (filter p xs) fails ∙ rest ∙ sym (filter_failing test x (q x) (filter q xs) fails)
    ]

-- an entry with the right reply has one that fits its call
fits : (book : BookRecord) (before : List Entry) (entry : Entry) → IsAnswer book before entry → IsReplyTo entry.call entry.reply
fits book before entry right = subst (λ (r : Reply). IsReplyTo entry.call r) (sym right) (replies_fit (with_entries book before) entry.call)

module _ (inverter : ℕ) where
  -- a call of another inverter, or of none, changes no pending read of this one
  changes_none : (called : Call) (answer : Reply) → IsReplyTo called answer → is_workers inverter called ≡ false → changes_by inverter called answer ≡ false
  changes_none (call.Link at other) answer fit apart = apart
  changes_none (call.Saw at other number raw) answer fit apart = rw apart refl
  changes_none (call.Read at other) (reply.ReadAs read) fit apart = ap (λ (n : ℕ). eqb n inverter) fit.0 ∙ apart
  changes_none called answer fit apart = refl

  -- it ends no write of this one
  ends_none : (rules : Rules) (before : List Entry) (called : Call) (answer : Reply) (write : writes.Write) → AreOwn before → write.inverter ≡ inverter
      → is_workers inverter called ≡ false → ends_by rules before called answer write ≡ false
  ends_none rules before (call.Back at other link number) answer write own its apart =
      let not_its : eqb write.inverter other ≡ false = ne_eqb write.inverter other (λ same. eqb-false other inverter apart (sym same ∙ its)) in
      and_right (is_taken answer) (is_numbered other link number write)
      (and_left (eqb write.inverter other && eqb write.link link) (eqb write.number number) (and_left (eqb write.inverter other) (eqb write.link link) not_its))
  ends_none rules before (call.Saw at other number raw) answer write own its apart =
      and_right (is_freed answer) (frees rules (pending_read other before) raw write) (frees_none (pending_read other before) refl)
    where
      frees_none : (pending : Option reads.Read) → pending_read other before ≡ pending → frees rules pending raw write ≡ false
      frees_none None is = refl
      frees_none (Some read) is =
          let not_its : eqb write.inverter read.inverter ≡ false =
          ne_eqb write.inverter read.inverter (λ same. eqb-false other inverter apart (sym (own other read is) ∙ sym same ∙ its)) in
          and_left (settles rules read write) (not (eqb write.raw raw)) (and_left (eqb write.inverter read.inverter) _ not_its)
  ends_none rules before called answer write own its apart = refl

  -- it grants none to this one
  grants_none : (rules : Rules) (now : ℕ) (p : writes.Write → Bool) (called : Call) (answer : Reply) → IsReplyTo called answer → is_workers inverter called ≡ false
      → filter (is_current rules now inverter) (filter p (granted answer)) ≡ []
  grants_none rules now p (call.Ask at other raw) (reply.Granted write) fit apart =
      filter_failing (is_current rules now inverter) write (p write) []
      (and_left (eqb write.inverter inverter) (leb now (last_moment rules write.at)) (ap (λ (n : ℕ). eqb n inverter) fit.0 ∙ apart))
  grants_none rules now p called (reply.Granted write) fit apart = absurd fit
  grants_none rules now p called answer fit apart = refl

  -- the moment of a call does not matter to whose it is
  same_workers : (at : ℕ) (called : Call) → is_workers inverter (at_moment at called) ≡ is_workers inverter called
  same_workers at (call.Want before other mw) = refl
  same_workers at called = refl

  -- to the pending read
  same_changes : (at : ℕ) (called : Call) (answer : Reply) → changes_by inverter (at_moment at called) answer ≡ changes_by inverter called answer
  same_changes at (call.Link before other) answer = refl
  same_changes at called answer = refl

  -- and to what it ends, where the same read is pending
  same_end : (rules : Rules) (before mine : List Entry) (at : ℕ) (called : Call) (answer : Reply) (write : writes.Write)
      → pending_read inverter before ≡ pending_read inverter mine → is_workers inverter called ≡ true
      → ends_by rules before (at_moment at called) answer write ≡ ends_by rules mine called answer write
  same_end rules before mine at (call.Saw moment other number raw) answer write same own =
      let pending : pending_read other before ≡ pending_read other mine =
      subst (λ (n : ℕ). pending_read n before ≡ pending_read n mine) (sym (eqb-true other inverter own)) same in
      ap (λ (p : Option reads.Read). is_freed answer && frees rules p raw write) pending
  same_end rules before mine at called answer write same own = refl

  -- the pending read behind one more entry, and behind one more call
  same_pending : (before mine : List Entry) (entry own : Entry) → IsEntryOf own entry → pending_read inverter before ≡ pending_read inverter mine
      → pending_read inverter (before ++ entry ∷ []) ≡ pending_read inverter (mine ++ own ∷ [])
  same_pending before mine entry own is same =
      pending_next inverter before entry
      ∙ ap (λ (e : Entry). cond (changes_pending inverter e) (read_of e.reply) (pending_read inverter before)) is.is
      ∙ ap (λ (b : Bool). cond b (read_of own.reply) (pending_read inverter before)) (same_changes is.at own.call own.reply)
      ∙ ap (λ (p : Option reads.Read). cond (changes_pending inverter own) (read_of own.reply) p) same
      ∙ sym (pending_next inverter mine own)

  -- behind an entry of another inverter, or of none, the same read is pending
  other_pending : (book : BookRecord) (before : List Entry) (entry : Entry) → IsAnswer book before entry → is_workers inverter entry.call ≡ false
      → pending_read inverter (before ++ entry ∷ []) ≡ pending_read inverter before
  other_pending book before entry right apart =
      pending_next inverter before entry
      ∙ ap (λ (b : Bool). cond b (read_of entry.reply) (pending_read inverter before)) (changes_none entry.call entry.reply (fits book before entry right) apart)

  -- a call of which an entry is one of the inverter's worker
  own_call : (own entry : Entry) → IsEntryOf own entry → is_workers inverter entry.call ≡ true → is_workers inverter own.call ≡ true
  own_call own entry is its = sym (same_workers is.at own.call) ∙ ap (λ (e : Entry). is_workers inverter e.call) (sym is.is) ∙ its

  module _ (rules : Rules) (book : BookRecord) where
    -- behind these entries a write is ended by the same as behind these calls, where the later entries are of the later calls
    abbrev SameEnds : List Entry → List Entry → writes.Write → Type 0
    SameEnds before later write = (mine made : List Entry) → pending_read inverter before ≡ pending_read inverter mine
        → AreEntriesOf made (entries_of inverter later) → ends_later rules before later write ≡ ends_later rules mine made write

    -- so it is where no entries are left
    ends_alike_none : (before mine made : List Entry) (write : writes.Write) → AreEntriesOf made [] → ends_later rules before [] write ≡ ends_later rules mine made write
    unfolding ends_later
    ends_alike_none before mine [] write are = refl
    ends_alike_none before mine (own ∷ made) write are = absurd are

    -- so it is with an entry of the inverter's worker before them
    ends_alike_own : (before later : List Entry) (entry : Entry) (write : writes.Write) → SameEnds (before ++ entry ∷ []) later write
        → is_workers inverter entry.call ≡ true → (mine made : List Entry) → pending_read inverter before ≡ pending_read inverter mine
        → AreEntriesOf made (entry ∷ entries_of inverter later) → ends_later rules before (entry ∷ later) write ≡ ends_later rules mine made write
    unfolding ends_later
    ends_alike_own before later entry write rest its mine [] pending are = absurd are
    ends_alike_own before later entry write rest its mine (own ∷ made) pending are =
        let here : ends rules before entry write ≡ ends rules mine own write =
        ap (λ (e : Entry). ends rules before e write) are.0.is
        ∙ same_end rules before mine are.0.at own.call own.reply write pending (own_call own entry are.0 its) in
        ap (λ (b : Bool). b || ends_later rules (before ++ entry ∷ []) later write) here
        ∙ ap (λ (b : Bool). ends rules mine own write || b) (rest (mine ++ own ∷ []) made (same_pending before mine entry own are.0 pending) are.1)

    -- so it is with any entry before them, if its reply is right
    ends_alike_one : (before later : List Entry) (entry : Entry) (write : writes.Write) → IsAnswer book before entry → AreOwn before → write.inverter ≡ inverter
        → SameEnds (before ++ entry ∷ []) later write → (b : Bool) → is_workers inverter entry.call ≡ b → SameEnds before (entry ∷ later) write
    unfolding ends_later
    ends_alike_one before later entry write right own its rest true is = λ mine made pending are.
        ends_alike_own before later entry write rest is mine made pending (rw is at are)
    ends_alike_one before later entry write right own its rest false is = λ mine made pending are.
        ap (λ (b : Bool). b || ends_later rules (before ++ entry ∷ []) later write) (ends_none rules before entry.call entry.reply write own its is)
        ∙ rest mine made (other_pending book before entry right is ∙ pending) (rw is at are)

    -- so it is of all entries, if their replies are right
    ends_alike : (before later : List Entry) (write : writes.Write) → EachInTurn (IsAnswer book) before later → AreOwn before → write.inverter ≡ inverter → SameEnds before later write
    ends_alike before [] write right own its = λ mine made pending are. ends_alike_none before mine made write are
    ends_alike before (entry ∷ later) write right own its =
        ends_alike_one before later entry write right.0 own its
        (ends_alike (before ++ entry ∷ []) later write right.1 (own_next book before entry right.0 own) its) (is_workers inverter entry.call) refl

    module _ (now : ℕ) where
      abbrev current : writes.Write → Bool
      current = is_current rules now inverter

      -- of the inverter's writes that are not past the same stand
      abbrev SameStanding : List Entry → List Entry → Type 0
      SameStanding before later = (mine made : List Entry) → pending_read inverter before ≡ pending_read inverter mine
          → AreEntriesOf made (entries_of inverter later) → filter current (standing rules before later) ≡ filter current (standing rules mine made)

      -- so it is where no entries are left
      stand_alike_none : (before mine made : List Entry) → AreEntriesOf made [] → filter current (standing rules before []) ≡ filter current (standing rules mine made)
      unfolding standing
      stand_alike_none before mine [] are = refl
      stand_alike_none before mine (own ∷ made) are = absurd are

      -- the grants of an entry that later entries don't end
      abbrev left_of : (before later : List Entry) → Entry → List writes.Write
      left_of before later entry = filter (λ write. not (ends_later rules (before ++ entry ∷ []) later write)) (grant_of entry)

      -- what stands of an entry and those behind it
      standing_first : (before later : List Entry) (entry : Entry)
          → filter current (standing rules before (entry ∷ later)) ≡ filter current (left_of before later entry) ++ filter current (standing rules (before ++ entry ∷ []) later)
      unfolding standing
      standing_first before later entry = filter-append current (left_of before later entry) (standing rules (before ++ entry ∷ []) later)

      -- a current write is the inverter's
      its_own : (write : writes.Write) → current write ≡ true → write.inverter ≡ inverter
      its_own write is = eqb-true write.inverter inverter (and_parts (eqb write.inverter inverter) (leb now (last_moment rules write.at)) is).0

      -- so it is with an entry of the inverter's worker before them
      stand_alike_own : (before later : List Entry) (entry : Entry) → EachInTurn (IsAnswer book) (before ++ entry ∷ []) later → AreOwn (before ++ entry ∷ [])
          → SameStanding (before ++ entry ∷ []) later → is_workers inverter entry.call ≡ true → (mine made : List Entry)
          → pending_read inverter before ≡ pending_read inverter mine → AreEntriesOf made (entry ∷ entries_of inverter later)
          → filter current (standing rules before (entry ∷ later)) ≡ filter current (standing rules mine made)
      stand_alike_own before later entry right own rest its mine [] pending are = absurd are
      stand_alike_own before later entry right own rest its mine (one ∷ made) pending are =
          let behind = same_pending before mine entry one are.0 pending in
          let here : filter current (left_of before later entry) ≡ filter current (left_of mine made one) =
          filter_under current (λ write. not (ends_later rules (before ++ entry ∷ []) later write)) (λ write. not (ends_later rules (mine ++ one ∷ []) made write))
          (λ write is. ap not (ends_alike (before ++ entry ∷ []) later write right own (its_own write is) (mine ++ one ∷ []) made behind are.1)) (grant_of entry)
          ∙ ap (λ (e : Entry). filter current (filter (λ write. not (ends_later rules (mine ++ one ∷ []) made write)) (grant_of e))) are.0.is in
          standing_first before later entry
          ∙ ap (λ (ws : List writes.Write). ws ++ filter current (standing rules (before ++ entry ∷ []) later)) here
          ∙ ap (λ (ws : List writes.Write). filter current (left_of mine made one) ++ ws) (rest (mine ++ one ∷ []) made behind are.1)
          ∙ sym (standing_first mine made one)

      -- so it is with any entry before them, if its reply is right
      stand_alike_one : (before later : List Entry) (entry : Entry) → IsAnswer book before entry → EachInTurn (IsAnswer book) (before ++ entry ∷ []) later
          → AreOwn (before ++ entry ∷ []) → SameStanding (before ++ entry ∷ []) later → (b : Bool) → is_workers inverter entry.call ≡ b → SameStanding before (entry ∷ later)
      stand_alike_one before later entry here right own rest true is = λ mine made pending are.
          stand_alike_own before later entry right own rest is mine made pending (rw is at are)
      stand_alike_one before later entry here right own rest false is = λ mine made pending are.
          standing_first before later entry
          ∙ ap (λ (ws : List writes.Write). ws ++ filter current (standing rules (before ++ entry ∷ []) later))
          (grants_none rules now (λ write. not (ends_later rules (before ++ entry ∷ []) later write)) entry.call entry.reply (fits book before entry here) is)
          ∙ rest mine made (other_pending book before entry here is ∙ pending) (rw is at are)

      -- so it is of all entries, if their replies are right
      stand_alike : (before later : List Entry) → EachInTurn (IsAnswer book) before later → AreOwn before → SameStanding before later
      stand_alike before [] right own = λ mine made pending are. stand_alike_none before mine made are
      stand_alike before (entry ∷ later) right own =
          let next = own_next book before entry right.0 own in
          stand_alike_one before later entry right.0 right.1 next (stand_alike (before ++ entry ∷ []) later right.1 next) (is_workers inverter entry.call) refl

    -- a call that grants a write grants it to the inverter
    abbrev GrantsOwn : Entry → Type 0
    GrantsOwn made = (write : writes.Write) → made.reply ≡ reply.Granted write → write.inverter ≡ inverter

    -- a grant to a call of the inverter's worker is the inverter's
    granted_own : (called : Call) (answer : Reply) → IsReplyTo called answer → is_workers inverter called ≡ true
        → (write : writes.Write) → answer ≡ reply.Granted write → write.inverter ≡ inverter
    granted_own (call.Ask at other raw) (reply.Granted made) fit its write is =
        let same : made ≡ write = alike made write is in
        ap (λ (w : writes.Write). w.inverter) (sym same) ∙ fit.0 ∙ eqb-true other inverter its
      where
        alike : (a b : writes.Write) → reply.Granted a ≡ reply.Granted b → a ≡ b
        alike a b is = cc
    granted_own called (reply.Granted made) fit its write is = absurd fit
    granted_own called answer fit its write is = absurd cc

    -- so it is with an entry of the inverter's worker before the others
    grant_own_one : (before later : List Entry) (entry : Entry) → IsAnswer book before entry → ((made : List Entry) → AreEntriesOf made (entries_of inverter later) → AllByRecursion GrantsOwn made)
        → is_workers inverter entry.call ≡ true → (made : List Entry) → AreEntriesOf made (entry ∷ entries_of inverter later) → AllByRecursion GrantsOwn made
    grant_own_one before later entry right rest its [] are = absurd are
    grant_own_one before later entry right rest its (own ∷ made) are = (
      λ write is. granted_own entry.call entry.reply (fits book before entry right) its write (ap (λ (e : Entry). e.reply) are.0.is ∙ is),
      rest made are.1,
    )

    -- so it is of no calls
    grant_own_none : (made : List Entry) → AreEntriesOf made [] → AllByRecursion GrantsOwn made
    grant_own_none [] are = tt
    grant_own_none (own ∷ made) are = absurd are

    -- each call of which an entry with the right reply is the inverter's does so
    grant_own_all : (before later : List Entry) → EachInTurn (IsAnswer book) before later → (made : List Entry) → AreEntriesOf made (entries_of inverter later) → AllByRecursion GrantsOwn made
    grant_own_all before [] right made are = grant_own_none made are
    grant_own_all before (entry ∷ later) right made are =
        let rest = grant_own_all (before ++ entry ∷ []) later right.1 in
        elim (cases_Bool (is_workers inverter entry.call)) [
          | inl its ↦ grant_own_one before later entry right.0 rest its made (rw its at are)
          | inr apart ↦ rest made (rw apart at are)
        ]

-- where none of the later entries ends a write that is granted among them, it stands
stands_there : (rules : Rules) (front before : List Entry) (asked : Entry) (later : List Entry) (write : writes.Write) → asked.reply ≡ reply.Granted write
    → ends_later rules ((front ++ before) ++ asked ∷ []) later write ≡ false → Contains (standing rules front (before ++ asked ∷ later)) write
unfolding standing
stands_there rules front [] asked later write is stands =
    let through = front ++ asked ∷ [] in
    let stays : writes.Write → Bool = λ w. not (ends_later rules through later w) in
    let granted_one : Contains (grant_of asked) write = subst (λ (r : Reply). Contains (granted r) write) (sym is) (Contains-push [] write) in
    let kept : stays write ≡ true = ap not (rw append-nil at stands) in
    Contains-append_left (filter stays (grant_of asked)) (standing rules through later) write (Contains-filtered stays (grant_of asked) write granted_one kept)
stands_there rules front (first ∷ before) asked later write is stands =
    let through = front ++ first ∷ [] in
    let same : ends_later rules ((front ++ first ∷ before) ++ asked ∷ []) later write ≡ ends_later rules ((through ++ before) ++ asked ∷ []) later write =
    ap (λ (es : List Entry). ends_later rules (es ++ asked ∷ []) later write) (sym (append_assoc front (first ∷ []) before)) in
    Contains-append_right (filter (λ w. not (ends_later rules through (before ++ asked ∷ later) w)) (grant_of first))
    (standing rules through (before ++ asked ∷ later)) write (stands_there rules through before asked later write is (sym same ∙ stands))

-- what holds of each element holds of one among them
at_place : {X : Type 0} (P : X → Type 0) (before : List X) (x : X) (later : List X) → AllByRecursion P (before ++ x ∷ later) → P x
at_place P [] x later all = all.0
at_place P (first ∷ before) x later all = at_place P before x later all.1

module _ (inverter : ℕ) (book : BookRecord) (run : List RunStep) (answered : IsAnswered book)
    (are : AreEntriesOf (calls_made output.Nothing run) (entries_of inverter book.entries)) where
  -- the live writes of the inverter are those that are live by the calls of the run
  same_live : (now : ℕ) → live book.site.rules book.entries now inverter ≡ live book.site.rules (calls_made output.Nothing run) now inverter
  unfolding live
  same_live now = stand_alike inverter book.site.rules book now [] book.entries answered own_none [] (calls_made output.Nothing run) refl are

  -- and what is reserved is what covers these
  pub left_by : AreLeftBy run book inverter
  unfolding reserved_at
  left_by = record {
    alive = same_live;
    reserved = λ now. ap (covering book.site inverter) (same_live now);
  }

  -- a write that the run leaves stays live and reserved up to its last moment
  pub stays_reserved : (write : writes.Write) → HasLeft book.site.rules run write → StaysReserved book inverter write
  unfolding live
  stays_reserved write has now until =
      let rules = book.site.rules in
      let all : AllByRecursion (λ (made : Entry). (write : writes.Write) → made.reply ≡ reply.Granted write → write.inverter ≡ inverter) (has.before ++ has.asked ∷ has.later) =
      subst (λ (es : List Entry). AllByRecursion (λ (made : Entry). (write : writes.Write) → made.reply ≡ reply.Granted write → write.inverter ≡ inverter) es) has.calls
      (grant_own_all inverter rules book [] book.entries answered (calls_made output.Nothing run) are) in
      let its : write.inverter ≡ inverter = at_place (λ (made : Entry). (write : writes.Write) → made.reply ≡ reply.Granted write → write.inverter ≡ inverter) has.before has.asked has.later all write has.granted in
      let stands : Contains (standing rules [] (calls_made output.Nothing run)) write =
      subst (λ (es : List Entry). Contains (standing rules [] es) write) (sym has.calls)
      (stands_there rules [] has.before has.asked has.later write has.granted has.not_ended) in
      let is_now : is_current rules now inverter write ≡ true =
      and_from (eqb write.inverter inverter) (leb now (last_moment rules write.at)) (eq-eqb write.inverter inverter its) (le-leb now (last_moment rules write.at) until) in
      let by_run : Contains (live rules (calls_made output.Nothing run) now inverter) write =
      Contains-filtered (is_current rules now inverter) (standing rules [] (calls_made output.Nothing run)) write stands is_now in
      let in_book : Contains (live rules book.entries now inverter) write = subst (λ (ws : List writes.Write). Contains ws write) (sym (same_live now)) by_run in
      let in_all = (Contains-filter (is_current rules now inverter) (standing rules [] book.entries) write in_book).within in
      (in_book, standing_le_reserved book now inverter write in_all its until)

-- a worker's calls over a book are its inverter's entries
worked : (may_give : ℕ → Bool) (opened book : BookRecord) (full : Type 0) (before after : WorkerRecord) (links links_now : Option Links) (faults faults_now : ℕ)
    (works : Works may_give before.job opened book full before after links links_now faults faults_now) → opened.entries ≡ []
    → AreEntriesOf (calls_made output.Nothing works.run) (entries_of before.job.inverter book.entries)
worked may_give opened book full before after links links_now faults faults_now works none =
    let old : World = own_world before.job.inverter opened links faults [] before.unread in
    let now : World = own_world before.job.inverter book links_now faults_now (readings works.run) after.unread in
    let gained = entered before.job output.Nothing works.run old now (works.done []) in
    let empty : entries_of before.job.inverter opened.entries ≡ [] = ap (entries_of before.job.inverter) none in
    let all : gained.0 ≡ entries_of before.job.inverter book.entries = ap (λ (first : List Entry). first ++ gained.0) (sym empty) ∙ sym gained.1 in
    subst (λ (entries : List Entry). AreEntriesOf (calls_made output.Nothing works.run) entries) all gained.2

-- so the run of a worker leaves what is live and reserved
pub left : (may_give : ℕ → Bool) (opened book : BookRecord) (full : Type 0) (before after : WorkerRecord) (links links_now : Option Links) (faults faults_now : ℕ)
    (works : Works may_give before.job opened book full before after links links_now faults faults_now) → IsAnswered book → opened.entries ≡ []
    → AreLeftBy works.run book before.job.inverter
left may_give opened book full before after links links_now faults faults_now works answered none =
    left_by before.job.inverter book works.run answered (worked may_give opened book full before after links links_now faults faults_now works none)

-- and what it has left stays reserved
pub stays : (may_give : ℕ → Bool) (opened book : BookRecord) (full : Type 0) (before after : WorkerRecord) (links links_now : Option Links) (faults faults_now : ℕ)
    (works : Works may_give before.job opened book full before after links links_now faults faults_now) (write : writes.Write) → IsAnswered book → opened.entries ≡ []
    → HasLeft book.site.rules works.run write → StaysReserved book before.job.inverter write
stays may_give opened book full before after links links_now faults faults_now works write answered none =
    stays_reserved before.job.inverter book works.run answered (worked may_give opened book full before after links links_now faults faults_now works none) write
