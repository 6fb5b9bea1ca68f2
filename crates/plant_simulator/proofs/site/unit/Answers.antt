use Rattle.std.proofs.Common.{◌≤◌, subst, sym}
use Rattle.limiter_num.specs.Milliwatts.{full_of}
use Rattle.limiter_num.specs.declared.rating.Rating.{Rating}
use Rattle.plant_simulator.specs.Site as rule
use Rattle.plant_simulator.proofs.site.unit.Goals as goal

pub invariant_of-result : goal.invariant_of-result
invariant_of-result c = record { within = subst (λ (r : Rating). 100 ≤ full_of r.psf) (sym c.rating.ensures) rule.within }
