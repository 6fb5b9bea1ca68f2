use Rattle.std.proofs.Common.{◌∙◌}
use Rattle.plant_book.specs.Part.{book_behind}
use Rattle.plant_ledger.proofs.Running.{reserved_is}
use Rattle.plant_ledger.proofs.ledger.Ledger.reserved.Goals as goal

pub returns-clause-watts : goal.returns-clause-watts
returns-clause-watts c before is =
    c.reserved.ensures.watts ∙ reserved_is (book_behind before c.args.self.now.book) c.args.self.now.at c.args.inverter c.account.result.now (c.account.ensures.account before is)
