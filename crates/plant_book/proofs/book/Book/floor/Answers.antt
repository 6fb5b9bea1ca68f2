use Rattle.std.proofs.Common.{sym, ◌∙◌}
use Rattle.plant_book.proofs.Inverters.{floor_at-is}
use Rattle.plant_book.proofs.book.Book.floor.Goals as goal

pub returns : goal.returns
returns c = c.mw.ensures.watts ∙ sym (floor_at-is c.args.self.now.site c.args.inverter c.unit-unit.result.now c.unit-unit.ensures)
