use Rattle.std.proofs.Common.{refl}
use Rattle.plant_book.specs.Writes.{live, standing}
use Rattle.plant_book.proofs.before.writes_before.Goals as goal

pub returns-in-None : goal.returns-in-None
unfolding live standing
returns-in-None c before is = rw (c.in-None.ensures before is) refl
