use Rattle.std.proofs.Common.{refl}
use Rattle.plant_book.specs.Policy.{is_strange}
use Rattle.plant_book.specs.Sums.{last_that}
use Rattle.plant_book.proofs.before.strange_before.Goals as goal

pub returns-in-None : goal.returns-in-None
unfolding is_strange last_that
returns-in-None c before is = rw (c.in-None.ensures before is) refl
