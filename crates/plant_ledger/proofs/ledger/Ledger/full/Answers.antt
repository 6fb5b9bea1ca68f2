use Rattle.std.proofs.Common.{sym, ◌∙◌}
use Rattle.plant_book.proofs.Inverters.{full_at-is}
use Rattle.plant_ledger.proofs.ledger.Ledger.full.Goals as goal

pub returns : goal.returns
returns c = c.full.ensures ∙ sym (full_at-is c.args.self.now.book.site c.args.inverter c.account.result.now.unit c.account.ensures.unit)
