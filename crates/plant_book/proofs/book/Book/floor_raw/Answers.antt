use Rattle.std.proofs.Common.{sym}
use Rattle.plant_book.proofs.Inverters.{floor_raw_at-is}
use Rattle.plant_book.proofs.book.Book.floor_raw.Goals as goal

pub returns : goal.returns
returns c = sym (floor_raw_at-is c.args.self.now.site c.args.inverter c.unit.result.now c.unit.ensures)
