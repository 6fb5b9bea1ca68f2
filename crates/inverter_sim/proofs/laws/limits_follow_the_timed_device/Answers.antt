use Rattle.inverter_sim.proofs.Doing.{does_begin, does_pass, does_may, does_look, does_end}
use Rattle.inverter_sim.proofs.laws.limits_follow_the_timed_device.Goals as goal

pub returns-clause-begins : goal.returns-clause-begins
returns-clause-begins c = does_begin

pub returns-clause-passes : goal.returns-clause-passes
returns-clause-passes c = does_pass

pub returns-clause-acts : goal.returns-clause-acts
returns-clause-acts c = does_may

pub returns-clause-looks : goal.returns-clause-looks
returns-clause-looks c = does_look

pub returns-clause-follows : goal.returns-clause-follows
returns-clause-follows c = λ history inverter now raw revert events does. does_end history inverter now events raw revert does
