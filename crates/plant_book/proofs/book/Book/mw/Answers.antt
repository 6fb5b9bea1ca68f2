use Rattle.std.proofs.Common.{sym, ◌∙◌}
use Rattle.plant_book.proofs.Inverters.{mw_at-is}
use Rattle.plant_book.proofs.book.Book.mw.Goals as goal

pub returns-clause-watts : goal.returns-clause-watts
returns-clause-watts c = c.mw.ensures.watts ∙ sym (mw_at-is c.args.self.now.site c.args.inverter c.unit.result.now c.unit.ensures c.args.raw)
