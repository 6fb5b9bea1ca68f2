use Rattle.mbap_frames.proofs.Faults.{found, next_bad, next_more, for_good}
use Rattle.mbap_frames.proofs.laws.calls_find_the_fault.Goals as goal

pub returns-clause-found : goal.returns-clause-found
returns-clause-found c = found

pub returns-clause-bad : goal.returns-clause-bad
returns-clause-bad c = next_bad

pub returns-clause-more : goal.returns-clause-more
returns-clause-more c = next_more

pub returns-clause-for_good : goal.returns-clause-for_good
returns-clause-for_good c = for_good
