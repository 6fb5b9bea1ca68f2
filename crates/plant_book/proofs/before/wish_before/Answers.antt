use Rattle.plant_book.specs.Policy.{wish}
use Rattle.plant_book.specs.Sums.{last_that}
use Rattle.plant_book.proofs.before.wish_before.Goals as goal

pub returns-in-None : goal.returns-in-None
unfolding wish last_that
returns-in-None c before is = rw (c.in-None.ensures before is) c.rated.ensures
