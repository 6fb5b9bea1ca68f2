use Rattle.std.proofs.Common.{arith, ◌∙◌}
use Rattle.uncertain_writes.proofs.Order.{past_by_first}
use Rattle.uncertain_writes.proofs.rising.has_past.Goals as goal

pub returns-in-len1-up : goal.returns-in-len1-up
returns-in-len1-up c =
    c.is_past.ensures
    ∙ past_by_first c.args.writes.now c.first-item.result (c.requires c.if-rising.true) c.first-item.is c.args.rules.now c.args.now (omega (arith, c.in-len1-up.len_at_least))
