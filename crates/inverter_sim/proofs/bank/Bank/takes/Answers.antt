use Rattle.std.proofs.Common.{◌≤◌, get_or, arith, rules, Fits, w16}
use Rattle.limiter_num.specs.Rating.{full}
use Rattle.inverter_sim.proofs.Blocks.{block_test}
use Rattle.inverter_sim.proofs.bank.Bank.takes.Goals as goal

pub returns-then-raw-full : goal.returns-then-raw-full
returns-then-raw-full c =
    let own = c.self.inside in
    let values = c.args.values.now in
    let small : Fits w16 (get_or values 5 0) = search rules in
    let within : get_or values 1 0 ≤ full own.unit.rating = omega arith in
    rw (← c.self.view_is, c.eq.ensures, c.as_slice.ensures, c.limit_block-block.ensures)
    (block_test own.unit own.rules values c.requires small.fits within)
