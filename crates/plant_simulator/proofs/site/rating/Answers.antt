use Rattle.plant_simulator.specs.Site as rule
use Rattle.plant_simulator.proofs.site.rating.Goals as goal

pub invariant_of-result : goal.invariant_of-result
invariant_of-result c = record { sound = rule.sound }
