use Rattle.std.proofs.Common.{refl, ◌∙◌}
use Rattle.plant_book.specs.Part.{book_behind}
use Rattle.plant_ledger.proofs.Sights.{reply_to_back-is}
use Rattle.plant_ledger.proofs.ledger.Ledger.reply_to_back.Goals as goal

pub returns-then-holds : goal.returns-then-holds
returns-then-holds c before is =
    let a = c.args in
    rw (reply_to_back-is (book_behind before a.self.now.book) a.self.now.at a.inverter a.link a.number _ (c.live.ensures ∙ (c.account.ensures.account before is).live), ← c.holds.ensures, c.if-holds.true) refl

pub returns-else-holds : goal.returns-else-holds
returns-else-holds c before is =
    let a = c.args in
    rw (reply_to_back-is (book_behind before a.self.now.book) a.self.now.at a.inverter a.link a.number _ (c.live.ensures ∙ (c.account.ensures.account before is).live), ← c.holds.ensures, c.if-holds.false) refl
