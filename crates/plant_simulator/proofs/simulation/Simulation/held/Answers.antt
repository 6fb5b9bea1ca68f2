use Rattle.std.proofs.Common.{ℕ, refl, arith}
use Rattle.plant_book.specs.Sums.{sum_below}
use Rattle.plant_book.specs.Site.{mw_at}
use Rattle.plant_simulator.specs.World.{World, held_by}
use Rattle.plant_simulator.proofs.Ready.{sum_more}
use Rattle.plant_simulator.proofs.simulation.Simulation.held.Goals as goal

watts : World → ℕ → ℕ
watts world inverter = mw_at world.book.site inverter (held_by world inverter)

pub loop-number-init : goal.loop-number-init
unfolding sum_below
loop-number-init c = record { sum = refl; below = omega arith }

pub loop-number-preserved : goal.loop-number-preserved
unfolding watts
loop-number-preserved c = record {
  sum = omega (arith, c.loop-number.invariant.sum, sum_more c.loop-number.number (watts c.args.self.now), c.mw-held.ensures.watts);
  below = omega (arith, c.loop-number.invariant.below, c.mw-held.ensures.below);
}
