use Rattle.plant_simulator.proofs.Lists.{old_writes_more}
use Rattle.plant_simulator.proofs.inverter.add_writes.Goals as goal

pub loop-request-preserved : goal.loop-request-preserved
loop-request-preserved c =
    old_writes_more c.args.life c.args.strays.now.items c.loop-request.strays.items _ c.args.line.now c.loop-request.request-index _
    c.loop-request-test.true c.loop-request.invariant c.in_ok-add_write.ensures
