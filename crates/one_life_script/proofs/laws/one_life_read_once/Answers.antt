use Rattle.one_life_script.proofs.Once.{one_script, one_line, not_both}
use Rattle.one_life_script.proofs.laws.one_life_read_once.Goals as goal

pub returns-clause-script : goal.returns-clause-script
returns-clause-script c = one_script

pub returns-clause-first_bad_line : goal.returns-clause-first_bad_line
returns-clause-first_bad_line c = one_line

pub returns-clause-not_both : goal.returns-clause-not_both
returns-clause-not_both c = not_both
