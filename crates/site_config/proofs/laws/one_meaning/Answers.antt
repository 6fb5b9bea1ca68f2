use Rattle.site_config.proofs.OneMeaning.{one_file, one_fault, not_both}
use Rattle.site_config.proofs.laws.one_meaning.Goals as goal

pub returns-clause-file : goal.returns-clause-file
returns-clause-file c = one_file

pub returns-clause-fault : goal.returns-clause-fault
returns-clause-fault c = one_fault

pub returns-clause-not_both : goal.returns-clause-not_both
returns-clause-not_both c = not_both
