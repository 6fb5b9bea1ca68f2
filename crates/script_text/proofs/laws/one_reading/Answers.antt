use Rattle.script_text.proofs.Once.{one_script, one_line, not_both}
use Rattle.script_text.proofs.laws.one_reading.Goals as goal

pub returns-clause-script : goal.returns-clause-script
returns-clause-script c = one_script

pub returns-clause-first_bad_line : goal.returns-clause-first_bad_line
returns-clause-first_bad_line c = one_line

pub returns-clause-not_both : goal.returns-clause-not_both
returns-clause-not_both c = not_both
