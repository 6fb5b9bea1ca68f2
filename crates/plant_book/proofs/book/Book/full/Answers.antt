use Rattle.std.proofs.Common.{sym, ◌∙◌}
use Rattle.plant_book.proofs.Inverters.{full_at-is}
use Rattle.plant_book.proofs.book.Book.full.Goals as goal

pub returns : goal.returns
returns c = c.full.ensures ∙ sym (full_at-is c.args.self.now.site c.args.inverter c.unit.result.now c.unit.ensures)
