use Rattle.nested_replay.proofs.Once.{one_nested, not_both}
use Rattle.nested_replay.proofs.laws.one_nested_reading.Goals as goal

pub returns-clause-nested : goal.returns-clause-nested
returns-clause-nested c = one_nested

pub returns-clause-not_both : goal.returns-clause-not_both
returns-clause-not_both c = not_both
