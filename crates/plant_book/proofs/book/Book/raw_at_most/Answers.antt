use Rattle.std.proofs.Common.{sym, ◌∙◌}
use Rattle.plant_book.proofs.Inverters.{raw_at-is}
use Rattle.plant_book.proofs.book.Book.raw_at_most.Goals as goal

pub returns : goal.returns
returns c = c.raw_at_most.ensures ∙ sym (raw_at-is c.args.self.now.site c.args.inverter c.unit.result.now c.unit.ensures c.args.mw)
