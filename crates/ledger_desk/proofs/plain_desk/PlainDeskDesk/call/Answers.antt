-- The desk of a plant after a call.
use Rattle.std.proofs.Common.{◌≡◌, length, Result, Ok, Err, subst}
use Rattle.std.specs.Prelude.{IfOk, IfErr, OnErr}
use Rattle.plant_book.specs.Part.{PartRecord}
use Rattle.plant_ledger.specs.declared.plant.BookFull.{BookFull}
use Rattle.plant_ledger.specs.declared.plant.Outcome.{Outcome}
use Rattle.ledger_desk.specs.Desk.{Enters, TestsLast}
use Rattle.ledger_desk.specs.Plain.{PlainRecord, state_of, tests_of, life_of}
use Rattle.ledger_desk.proofs.Later.{IsLater, tests_last, life_same}
use Rattle.ledger_desk.proofs.Calls.{with_book, desk_later, desk_full, desk_enters}
use Rattle.ledger_desk.specs.contracts.plain_desk.PlainDesk as desk
use Rattle.ledger_desk.proofs.plain_desk.PlainDeskDesk.call.Goals as goal

-- what a full book says
module _ (old plant : PartRecord) where
  same : (result : Result Outcome BookFull) → IfErr result (λ full. (full.calls ≡ length old.entries) × (full.calls ≡ old.site.room) × (plant ≡ old)) → OnErr result (plant ≡ old)
  same (Ok outcome) full = tt
  same (Err fault) full = full.2

  has_room : (result : Result Outcome BookFull) → IfErr result (λ full. (full.calls ≡ length old.entries) × (full.calls ≡ old.site.room) × (plant ≡ old)) → OnErr result (length old.entries ≡ old.site.room)
  has_room (Ok outcome) full = tt
  has_room (Err fault) full = cc

pub returns-clause-entered : goal.returns-clause-entered
returns-clause-entered c =
    let old : PlainRecord = desk.the_view c.self.inside in
    subst (λ (was : PlainRecord). IfOk c.apply.result (λ outcome. Enters c.args.call outcome.reply (state_of was) (state_of (with_book old c.apply.new.self)))) c.self.view_is
    (desk_enters (λ (outcome : Outcome). outcome.reply) old c.args.call c.apply.new.self c.self.invariant c.requires.moment c.apply.result c.apply.ensures.entered c.apply.ensures.lives)

pub returns-clause-full : goal.returns-clause-full
returns-clause-full c =
    let old : PlainRecord = desk.the_view c.self.inside in
    desk_full (λ (outcome : Outcome). outcome.reply) old c.args.call c.apply.new.self c.self.invariant c.apply.result
    (same old.book c.apply.new.self c.apply.result c.apply.ensures.full) (has_room old.book c.apply.new.self c.apply.result c.apply.ensures.full)

later : (c : goal.After-apply) → IsLater (desk.the_view c.self.inside) (with_book (desk.the_view c.self.inside) c.apply.new.self)
later c =
    let old : PlainRecord = desk.the_view c.self.inside in
    desk_later (λ (outcome : Outcome). outcome.reply) old c.args.call c.apply.new.self c.apply.result c.apply.ensures.entered (same old.book c.apply.new.self c.apply.result c.apply.ensures.full)

pub returns-clause-last : goal.returns-clause-last
returns-clause-last c =
    let old : PlainRecord = desk.the_view c.self.inside in
    let new = with_book old c.apply.new.self in
    subst (λ (was : PlainRecord). TestsLast (tests_of was) (tests_of new)) c.self.view_is (tests_last old new (later c))

pub returns-clause-kept : goal.returns-clause-kept
returns-clause-kept c =
    let old : PlainRecord = desk.the_view c.self.inside in
    subst (λ (was : PlainRecord). life_of (with_book old c.apply.new.self) ≡ life_of was) c.self.view_is (life_same old (with_book old c.apply.new.self) (later c))
