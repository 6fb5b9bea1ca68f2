use Rattle.plant_ledger.proofs.Kept.{kept_sound}
use Rattle.plant_ledger.proofs.plant.Plant.apply.Goals as goal

pub returns-then-calls-site-clause-sound : goal.returns-then-calls-site-clause-sound
returns-then-calls-site-clause-sound c = kept_sound _

pub returns-clause-sound : goal.returns-clause-sound
returns-clause-sound c = kept_sound _
