use Rattle.script_replay.proofs.Once.{one_replay, replay_stands, one_fault, replays_itself}
use Rattle.script_replay.proofs.laws.one_replay.Goals as goal

pub returns-clause-one : goal.returns-clause-one
returns-clause-one c = one_replay

pub returns-clause-itself : goal.returns-clause-itself
returns-clause-itself c = replays_itself

pub returns-clause-not_refused : goal.returns-clause-not_refused
returns-clause-not_refused c = replay_stands

pub returns-clause-one_fault : goal.returns-clause-one_fault
returns-clause-one_fault c = one_fault
