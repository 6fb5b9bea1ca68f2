use Rattle.std.proofs.Common.{sym, ap, ◌∙◌}
use Rattle.limiter_num.specs.Rating.{mw}
use Rattle.plant_book.proofs.Inverters.{rated_at-is}
use Rattle.plant_book.proofs.book.Book.rated.Goals as goal

pub returns : goal.returns
returns c = c.mw.ensures.watts ∙ ap (mw c.unit.result.now.rating) c.full.ensures ∙ sym (rated_at-is c.args.self.now.site c.args.inverter c.unit.result.now c.unit.ensures)
