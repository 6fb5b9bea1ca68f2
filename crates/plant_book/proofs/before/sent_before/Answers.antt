use Rattle.std.proofs.Common.{refl}
use Rattle.plant_book.specs.Requests.{requests}
use Rattle.plant_book.proofs.before.sent_before.Goals as goal

pub returns-in-None : goal.returns-in-None
unfolding requests
returns-in-None c before is = rw (c.in-None.ensures before is) refl
