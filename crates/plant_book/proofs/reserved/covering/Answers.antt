use Rattle.std.proofs.Common.{sym, ◌∙◌}
use Rattle.plant_book.proofs.Inverters.{covering-is}
use Rattle.plant_book.proofs.reserved.covering.Goals as goal

pub returns-clause-watts : goal.returns-clause-watts
returns-clause-watts c = c.greatest.ensures.watts ∙ sym (covering-is c.args.book.now.site c.args.inverter c.unit.result.now c.unit.ensures c.args.writes.now)
