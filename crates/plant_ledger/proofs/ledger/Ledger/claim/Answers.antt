use Rattle.std.proofs.Common.{◌∙◌}
use Rattle.plant_book.specs.Part.{book_behind}
use Rattle.plant_ledger.proofs.Running.{claim_is}
use Rattle.plant_ledger.proofs.ledger.Ledger.claim.Goals as goal

pub returns : goal.returns
returns c before is =
    c.claim.ensures ∙ claim_is (book_behind before c.args.self.now.book) c.args.self.now.at c.args.inverter c.account.result.now (c.account.ensures.account before is)
