use Rattle.nested_replay.proofs.OneReplay.{one_replay, not_refused}
use Rattle.nested_replay.proofs.laws.one_nested_replay.Goals as goal

pub returns-clause-one : goal.returns-clause-one
returns-clause-one c = one_replay

pub returns-clause-not_refused : goal.returns-clause-not_refused
returns-clause-not_refused c = not_refused
