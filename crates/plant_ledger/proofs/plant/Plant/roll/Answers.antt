use Rattle.plant_ledger.proofs.Kept.{kept_sound}
use Rattle.plant_ledger.proofs.plant.Plant.roll.Goals as goal

pub returns-clause-sound : goal.returns-clause-sound
returns-clause-sound c = kept_sound _
