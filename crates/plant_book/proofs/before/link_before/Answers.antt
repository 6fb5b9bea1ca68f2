use Rattle.std.proofs.Common.{refl}
use Rattle.plant_book.specs.Requests.{link_number}
use Rattle.plant_book.proofs.before.link_before.Goals as goal

pub returns-in-None : goal.returns-in-None
unfolding link_number
returns-in-None c before is = rw (c.in-None.ensures before is) refl
