-- The pending read of an inverter is one of its own.
use Rattle.std.proofs.Common.{◌≡◌, ℕ, Bool, true, cond, eqb, List, [], ◌∷◌, ◌++◌, Option, Some, refl, sym, ap, subst, ◌∙◌, append_assoc, inl, inr}
use Rattle.std.specs.Prelude.{find}
use Rattle.std.proofs.lemmas.Bool.{cases_Bool, eqb-true}
use Rattle.std.proofs.lemmas.List.{reverse-append, append-nil}
use Rattle.plant_book.specs.declared.call.Call.{Call}
use Rattle.plant_book.specs.declared.call.Call.TheVariants as calls
use Rattle.plant_book.specs.declared.call.Reply.{Reply}
use Rattle.plant_book.specs.declared.call.Reply.TheVariants as replies
use Rattle.plant_book.specs.declared.call.Read as reads
use Rattle.plant_book.specs.declared.book.Entry.{Entry}
use Rattle.plant_book.specs.Sums.{last_that}
use Rattle.plant_book.specs.Book.{BookRecord}
use Rattle.plant_book.specs.Requests.{reads_for, is_seen, changes_by, changes_pending, read_of, pending_after, pending_read}
use Rattle.plant_book.specs.Answer.{reply_to}
use Rattle.plant_book.specs.Answered.{EachInTurn, IsAnswer, IsAnswered, with_entries}

-- the last that passes, where one more stands at the end
pub last_that-push : {X : Type 0} (p : X → Bool) (xs : List X) (x : X) → last_that p (xs ++ x ∷ []) ≡ cond (p x) (Some x) (last_that p xs)
unfolding last_that
last_that-push p xs x = ap (find p) (reverse-append xs (x ∷ []))

-- the pending read after one more entry
pub pending-push : (inverter : ℕ) (before : List Entry) (entry : Entry)
    → pending_read inverter (before ++ entry ∷ []) ≡ cond (changes_pending inverter entry) (read_of entry.reply) (pending_read inverter before)
unfolding pending_read
pending-push inverter before entry =
    ap pending_after (last_that-push (changes_pending inverter) before entry)
    ∙ elim (cases_Bool (changes_pending inverter entry)) [ inl changes ↦ rw changes refl | inr keeps ↦ rw keeps refl ]

some_read : (read other : reads.Read) → ◌≡◌ {A = Option reads.Read} (Some read) (Some other) → read ≡ other
some_read read other is = cc

read_by : (inverter : ℕ) (reply : Reply) (read : reads.Read) → reads_for inverter reply ≡ true → read_of reply ≡ Some read → read.inverter ≡ inverter
read_by inverter (replies.ReadAs other) read is made = ap (λ (r : reads.Read). r.inverter) (sym (some_read other read made)) ∙ eqb-true other.inverter inverter is
read_by inverter _ read is made = absurd cc

seen_reads_none : (reply : Reply) (read : reads.Read) → is_seen reply ≡ true → read_of reply ≡ Some read → ⊥
seen_reads_none (replies.Freed count reserved) read is made = cc
seen_reads_none (replies.Strange raw) read is made = cc
seen_reads_none _ read is made = cc

-- a read that an entry makes pending is of the inverter
made_by : (book : BookRecord) (inverter : ℕ) (call : Call) (reply : Reply) (read : reads.Read) → reply ≡ reply_to book call
    → changes_by inverter call reply ≡ true → read_of reply ≡ Some read → read.inverter ≡ inverter
made_by book inverter (calls.Link at other) reply read answer is made = absurd (let none = rw answer at made in cc)
made_by book inverter (calls.Ask at other raw) reply read answer is made = absurd cc
made_by book inverter (calls.Read at other) reply read answer is made = read_by inverter reply read is made
made_by book inverter (calls.Saw at other number raw) reply read answer is made =
    elim (cases_Bool (eqb other inverter)) [
      | inl own ↦ absurd (seen_reads_none reply read (let seen = rw own at is in seen) made)
      | inr another ↦ absurd (let never = rw another at is in cc)
    ]
made_by book inverter (calls.Back at other link number) reply read answer is made = absurd cc
made_by book inverter (calls.Want at other mw) reply read answer is made = absurd cc
made_by book inverter (calls.Tick at) reply read answer is made = absurd cc
made_by book inverter (calls.Stop at) reply read answer is made = absurd cc
made_by book inverter (calls.Cap at watts) reply read answer is made = absurd cc

-- each inverter's pending read behind these entries is one of its own
pub record PendsOwn (entries : List Entry) : Type 0 where
  pub own : (inverter : ℕ) (read : reads.Read) → pending_read inverter entries ≡ Some read → read.inverter ≡ inverter

pub PendsOwn-push : (book : BookRecord) (before : List Entry) (entry : Entry) → PendsOwn before → IsAnswer book before entry → PendsOwn (before ++ entry ∷ [])
PendsOwn-push book before entry pends answer = record {
  own = λ inverter read is.
      let step = sym (pending-push inverter before entry) ∙ is in
      elim (cases_Bool (changes_pending inverter entry)) [
        | inl changes ↦ made_by (with_entries book before) inverter entry.call entry.reply read answer changes (let made = rw changes at step in made)
        | inr keeps ↦ pends.own inverter read (let same = rw keeps at step in same)
      ];
}

PendsOwn-along : (book : BookRecord) (before later : List Entry) → PendsOwn before → EachInTurn (IsAnswer book) before later → PendsOwn (before ++ later)
PendsOwn-along book before [] pends right = subst PendsOwn (sym (append-nil before)) pends
PendsOwn-along book before (entry ∷ later) pends right =
    subst PendsOwn (append_assoc before (entry ∷ []) later) (PendsOwn-along book (before ++ entry ∷ []) later (PendsOwn-push book before entry pends right.0) right.1)

pub PendsOwn-nil : PendsOwn []
unfolding pending_read last_that
PendsOwn-nil = record { own = λ inverter read is. absurd cc }

pub PendsOwn-answered : (book : BookRecord) → IsAnswered book → PendsOwn book.entries
PendsOwn-answered book right = PendsOwn-along book [] book.entries PendsOwn-nil right
