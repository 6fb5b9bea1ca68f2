use Rattle.std.proofs.Common.{sym, subst, arith}
use Rattle.uncertain_writes.specs.Live.{IsOldest}
use Rattle.uncertain_writes.proofs.Order.{oldest_first}
use Rattle.uncertain_writes.proofs.rising.oldest.Goals as goal

pub returns-in-len1-up : goal.returns-in-len1-up
returns-in-len1-up c =
    subst (IsOldest c.args.writes.now) (sym c.at.ensures) (oldest_first c.args.writes.now c.first-item.result (c.requires c.if-rising.true) c.first-item.is (omega (arith, c.in-len1-up.len_at_least)))
