use Rattle.script_replay.proofs.Once.{not_refused, not_full}
use Rattle.script_replay.proofs.laws.room_is_enough.Goals as goal

pub returns-clause-not_refused : goal.returns-clause-not_refused
returns-clause-not_refused c = not_refused

pub returns-clause-not_full : goal.returns-clause-not_full
returns-clause-not_full c = not_full
