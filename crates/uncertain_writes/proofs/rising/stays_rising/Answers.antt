use Rattle.std.proofs.Common.{arith}
use Rattle.std.proofs.lemmas.Bool.{leb-true}
use Rattle.uncertain_writes.proofs.Order.{order-push}
use Rattle.uncertain_writes.proofs.rising.stays_rising.Goals as goal

pub returns-in-len1-up : goal.returns-in-len1-up
returns-in-len1-up c = λ below write is.
    order-push c.args.writes.now c.last-item.result write (c.requires c.if-not-rising.false) c.last-item.is
    (omega (arith, leb-true c.at.result c.args.at below, c.at.ensures, is))
