use Rattle.std.proofs.Common.{sym, ◌∙◌}
use Rattle.plant_book.proofs.Inverters.{mw_at-is}
use Rattle.plant_ledger.proofs.ledger.Ledger.limit.Goals as goal

pub returns : goal.returns
returns c = c.limit.ensures.watts ∙ sym (mw_at-is c.args.self.now.book.site c.args.inverter c.account.result.now.unit c.account.ensures.unit c.args.raw)
