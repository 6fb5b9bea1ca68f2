use Rattle.operator_console.proofs.Handled.{writes_full, writes_rolled}
use Rattle.operator_console.proofs.orders.roll.Goals as goal

pub returns-in-Ok-clause-rolled : goal.returns-in-Ok-clause-rolled
returns-in-Ok-clause-rolled g c =
    writes_rolled c.write_rolled.result _ _ _ _ _ _ _ c.in-Ok.ensures.rolled c.in-Ok.ensures.ended c.write_rolled.ensures.all c.write_rolled.ensures.front c.write_rolled.ensures.failed

pub returns-in-Err-LifeFull-clause-rolled : goal.returns-in-Err-LifeFull-clause-rolled
returns-in-Err-LifeFull-clause-rolled g c =
    writes_full c.write.result _ _ _ _ c.in-Err-LifeFull.field-0-0 _ _ c.in-Err-LifeFull.ensures.none
    (c.in-Err-LifeFull.ensures.full_life c.in-Err-LifeFull.field-0-0 c.in-Err-LifeFull.field-0-is)
    c.write.ensures.all c.write.ensures.front c.write.ensures.failed
