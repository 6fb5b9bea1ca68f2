use Rattle.plant_book.proofs.Lowered.{under_ceiling, back_under_cap}
use Rattle.plant_book.proofs.laws.totals_come_back_under_the_cap.Goals as goal

pub returns-clause-ceiling : goal.returns-clause-ceiling
returns-clause-ceiling c = under_ceiling

pub returns-clause-back : goal.returns-clause-back
returns-clause-back c = back_under_cap
