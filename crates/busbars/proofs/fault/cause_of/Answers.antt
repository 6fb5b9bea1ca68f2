use Rattle.std.proofs.Common.{◌+◌, ap, arith}
use Rattle.plant_book.specs.Site.{SiteRecord, inverters, floor_at}
use Rattle.busbars.proofs.Members.{sums_rise}
use Rattle.busbars.proofs.fault.cause_of.Goals as goal

pub sum_on-sum-requires-clause-rising : goal.sum_on-sum-requires-clause-rising
sum_on-sum-requires-clause-rising c =
    let site = c.args.site.now in
    sums_rise (inverters site) (floor_at site) c.args.floors.now c.requires.floors c.args.bus.now.lo (c.args.bus.now.hi + 1) (omega arith)
    (omega (arith, c.if-from-len.false, c.from.ensures, c.len.ensures, ap (λ (s : SiteRecord). inverters s) c.site.view_is))
