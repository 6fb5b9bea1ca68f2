use Rattle.plant_book.proofs.Lives.{life_is_behind}
use Rattle.plant_book.proofs.laws.lives_are_joined.Goals as goal

pub returns : goal.returns
returns c = life_is_behind
