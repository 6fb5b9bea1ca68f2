use Rattle.plant_book.specs.Life.{joined_book}
use Rattle.plant_run.specs.Works.{HasFullBook}
use Rattle.plant_run.proofs.Agreeing.{agree}
use Rattle.plant_run.proofs.laws.links_agree.Goals as goal

pub returns : goal.returns
returns c = λ may_give opened life. agree may_give opened (joined_book life) (HasFullBook life)
