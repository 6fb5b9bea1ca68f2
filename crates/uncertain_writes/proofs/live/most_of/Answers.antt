use Rattle.std.proofs.Common.{arith}
use Rattle.uncertain_writes.proofs.Order.{most_raw-more}
use Rattle.uncertain_writes.proofs.live.most_of.Goals as goal

pub loop-kept-preserved : goal.loop-kept-preserved
loop-kept-preserved c =
    most_raw-more c.args.writes.now c.loop-kept.kept-index c.loop-kept.most c.raw.result c.max-most.result c.kept-item.result (omega arith) c.kept-item.is c.raw.ensures (omega (arith, c.max-most.ensures)) c.loop-kept.invariant
