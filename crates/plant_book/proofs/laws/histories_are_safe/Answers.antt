use Rattle.plant_book.proofs.Safe.{safe_always}
use Rattle.plant_book.proofs.laws.histories_are_safe.Goals as goal

pub returns : goal.returns
returns c = safe_always
