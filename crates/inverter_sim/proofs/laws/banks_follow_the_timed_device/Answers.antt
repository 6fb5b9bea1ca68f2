use Rattle.inverter_sim.proofs.Banks.{bank_passes, bank_acts}
use Rattle.inverter_sim.proofs.laws.banks_follow_the_timed_device.Goals as goal

pub returns-clause-passes : goal.returns-clause-passes
returns-clause-passes c = bank_passes

pub returns-clause-acts : goal.returns-clause-acts
returns-clause-acts c = bank_acts
