use Rattle.plant_book.proofs.Device.{covers_held}
use Rattle.plant_book.proofs.laws.what_is_held_is_reserved.Goals as goal

pub returns : goal.returns
returns c = covers_held
