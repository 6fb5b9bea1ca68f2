use Rattle.std.proofs.Common.{◌≡◌, eqb, true, false, refl, sym, ◌∙◌}
use Rattle.std.proofs.lemmas.Bool.{eq-eqb, ne_eqb}
use Rattle.plant_book.specs.Part.{book_behind}
use Rattle.plant_ledger.proofs.Sights.{reply_to_saw-is}
use Rattle.plant_ledger.proofs.ledger.Ledger.reply_to_saw.Goals as goal

pub returns-in-Some : goal.returns-in-Some
returns-in-Some c before is =
    let a = c.args in
    let same : eqb c.in-Some.read.number a.number ≡ true = eq-eqb c.in-Some.read.number a.number c.if-read-number.true in
    rw (reply_to_saw-is (book_behind before a.self.now.book) a.self.now.at a.inverter a.number a.raw _ (sym c.in-Some.is ∙ c.pending-pending.ensures ∙ (c.account.ensures.account before is).pending), same) (c.reply_to_sight.ensures before is)

pub returns-in_default : goal.returns-in_default
returns-in_default c before is =
    let a = c.args in
    let apart : eqb c.in-Some.read.number a.number ≡ false = ne_eqb c.in-Some.read.number a.number c.if-read-number.false in
    rw (reply_to_saw-is (book_behind before a.self.now.book) a.self.now.at a.inverter a.number a.raw _ (sym c.in-Some.is ∙ c.pending-pending.ensures ∙ (c.account.ensures.account before is).pending), apart) refl

pub returns-in_default-2 : goal.returns-in_default-2
returns-in_default-2 c before is =
    let a = c.args in
    rw (reply_to_saw-is (book_behind before a.self.now.book) a.self.now.at a.inverter a.number a.raw _ (sym c.in_default.is ∙ c.pending-pending.ensures ∙ (c.account.ensures.account before is).pending)) refl
