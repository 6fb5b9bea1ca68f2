use Rattle.std.proofs.Common.{length, ap, arith}
use Rattle.plant_book.specs.declared.call.Write as writes
use Rattle.plant_book.proofs.LiveSteps.{few_first, live_before}
use Rattle.plant_book.proofs.live.live_first.Goals as goal

pub copied-live-requires : goal.copied-live-requires
copied-live-requires c =
    let part = c.args.book.now in
    let before = c.requires.book.before in
    let is = c.requires.book.behind in
    omega (arith, ap (length {A = writes.Write}) (c.writes_before.ensures before is), ap (length {A = writes.Write}) (live_before part before is c.args.inverter), few_first part before is 0 c.args.inverter)
