use Rattle.busbars.proofs.Members.{sum_is}
use Rattle.busbars.proofs.sums.sum_on.Goals as goal

pub returns : goal.returns
returns c site number are of_site = rw (c.from.ensures, c.from-2.ensures) (sum_is c.args.bus.now number site c.args.sums.now are of_site)
