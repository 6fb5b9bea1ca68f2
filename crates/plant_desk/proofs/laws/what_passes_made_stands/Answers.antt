use Rattle.plant_desk.proofs.Standing.{is_made_up}
use Rattle.plant_desk.proofs.laws.what_passes_made_stands.Goals as goal

pub returns : goal.returns
returns c = is_made_up
