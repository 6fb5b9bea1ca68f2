use Rattle.simulated_tests.proofs.bank.compare.Goals as goal

pub loop-now-preserved : goal.loop-now-preserved
loop-now-preserved g c = c.reply.ensures.time
