use Rattle.inverter_sim.proofs.Limits.{limit_is_taken, limit_is_shown}
use Rattle.inverter_sim.proofs.laws.limits_are_taken_and_shown.Goals as goal

pub returns-clause-taken : goal.returns-clause-taken
returns-clause-taken c = limit_is_taken

pub returns-clause-shown : goal.returns-clause-shown
returns-clause-shown c = limit_is_shown
