-- The desk of a plant after a release.
use Rattle.std.proofs.Common.{◌≡◌, length, Result, Ok, Err, subst, sym, ap, ◌∙◌}
use Rattle.std.specs.Prelude.{IfOk, IfErr, OnErr}
use Rattle.plant_book.specs.declared.call.Write as writes
use Rattle.plant_book.specs.declared.call.Reply.{Reply}
use Rattle.plant_book.specs.Part.{PartRecord}
use Rattle.plant_ledger.specs.declared.plant.BookFull.{BookFull}
use Rattle.plant_ledger.specs.Release.{back_of}
use Rattle.ledger_desk.specs.Desk.{Enters, TestsLast}
use Rattle.ledger_desk.specs.Plain.{PlainRecord, state_of, WasFull, tests_of, life_of}
use Rattle.ledger_desk.proofs.Later.{IsLater, tests_last, life_same}
use Rattle.ledger_desk.proofs.Calls.{with_book, desk_later, desk_full, desk_enters}
use Rattle.ledger_desk.specs.contracts.plain_desk.PlainDesk as desk
use Rattle.ledger_desk.proofs.plain_desk.PlainDeskDesk.release.Goals as goal
use Rattle.ledger_desk.proofs.plain_desk.PlainDeskDesk.release.Goals.{in-Ok, in-Err}

abbrev Released : Type 0
Released = Result Reply (BookFull × writes.Write)

-- what a release answers, without the ticket
abbrev answer : Released → Result Reply BookFull
answer (Ok reply) = Ok reply
answer (Err refused) = Err refused.0

on_answer : (P : Reply → Type 0) (result : Released) → IfOk result P → IfOk (answer result) P
on_answer P (Ok reply) fact = fact
on_answer P (Err refused) fact = tt

on_refusal : (P : Type 0) (result : Released) → OnErr result P → OnErr (answer result) P
on_refusal P (Ok reply) fact = tt
on_refusal P (Err refused) fact = fact

-- what a full book says
module _ (old plant : PartRecord) (ticket : writes.Write) where
  abbrev Full : Released → Type 0
  Full result = IfErr result (λ refused. (refused.0.calls ≡ length old.entries) × (refused.0.calls ≡ old.site.room) × (refused.1 ≡ ticket) × (plant ≡ old))

  same : (result : Released) → Full result → OnErr result (plant ≡ old)
  same (Ok reply) full = tt
  same (Err refused) full = full.3

  has_room : (result : Released) → Full result → OnErr result (length old.entries ≡ old.site.room)
  has_room (Ok reply) full = tt
  has_room (Err refused) full = sym full.0 ∙ full.1

answered : (c : goal.Joined-release) → c.match-release.result ≡ answer c.release.result
answered c = elim c.match-release.branch [
  | in-Ok w ↦ w.result-is ∙ sym (ap answer w.in-Ok.is)
  | in-Err w ↦ w.result-is ∙ sym (ap answer w.in-Err.is)
]

module _ (c : goal.Joined-release) where
  abbrev old : PlainRecord
  old = desk.the_view c.self.inside

  abbrev new : PlainRecord
  new = with_book old c.release.new.self

  entered : IfOk c.release.result (λ reply. Enters (back_of c.args.ticket c.args.at) reply (state_of old) (state_of new))
  entered = desk_enters (λ (reply : Reply). reply) old (back_of c.args.ticket c.args.at) c.release.new.self c.self.invariant c.requires.moment c.release.result c.release.ensures.entered c.release.ensures.lives

  later : IsLater old new
  later = desk_later (λ (reply : Reply). reply) old (back_of c.args.ticket c.args.at) c.release.new.self c.release.result c.release.ensures.entered
      (same old.book c.release.new.self c.args.ticket c.release.result c.release.ensures.full)

pub returns-clause-entered : goal.returns-clause-entered
returns-clause-entered c =
    let P : Reply → Type 0 = λ reply. Enters (back_of c.args.ticket c.args.at) reply (state_of c.args.self.now) (state_of (new c)) in
    subst (λ (result : Result Reply BookFull). IfOk result P) (sym (answered c)) (on_answer P c.release.result
    (subst (λ (was : PlainRecord). IfOk c.release.result (λ reply. Enters (back_of c.args.ticket c.args.at) reply (state_of was) (state_of (new c)))) c.self.view_is (entered c)))

pub returns-clause-full : goal.returns-clause-full
returns-clause-full c =
    subst (λ (result : Result Reply BookFull). OnErr result (WasFull (new c))) (sym (answered c)) (on_refusal (WasFull (new c)) c.release.result
    (desk_full (λ (reply : Reply). reply) (old c) (back_of c.args.ticket c.args.at) c.release.new.self c.self.invariant c.release.result
    (same (old c).book c.release.new.self c.args.ticket c.release.result c.release.ensures.full) (has_room (old c).book c.release.new.self c.args.ticket c.release.result c.release.ensures.full)))

pub returns-clause-last : goal.returns-clause-last
returns-clause-last c =
    subst (λ (was : PlainRecord). TestsLast (tests_of was) (tests_of (new c))) c.self.view_is (tests_last (old c) (new c) (later c))

pub returns-clause-kept : goal.returns-clause-kept
returns-clause-kept c =
    subst (λ (was : PlainRecord). life_of (new c) ≡ life_of was) c.self.view_is (life_same (old c) (new c) (later c))
