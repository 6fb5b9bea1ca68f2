use Rattle.plant_book.proofs.Tight.{tight}
use Rattle.plant_book.proofs.laws.no_write_could_go_sooner.Goals as goal

pub returns : goal.returns
returns c = tight
