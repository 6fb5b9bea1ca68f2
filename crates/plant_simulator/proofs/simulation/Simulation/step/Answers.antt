use Rattle.std.proofs.Common.{◌≡◌, length, sym, subst, ap, ◌∙◌, arith}
use Rattle.plant_simulator.specs.World.{World}
use Rattle.plant_simulator.specs.Step.{passed}
use Rattle.plant_simulator.specs.Ready.{IsReady}
use Rattle.plant_simulator.proofs.Ready.{ready_passed, length_passed, life_passed}
use Rattle.plant_simulator.proofs.simulation.Simulation.step.Goals as goal

as_many : (old new : World) → new ≡ passed old → length new.inverters ≡ length old.inverters
as_many old new is = ap (λ (w : World). length w.inverters) is ∙ length_passed old

pub draw-number-requires : goal.draw-number-requires
draw-number-requires c = omega (arith, as_many c.args.self.now c.pass.new.self c.pass.ensures, c.requires.ready.some)

pub overflow_cast-number : goal.overflow_cast-number
overflow_cast-number c = omega (arith, as_many c.args.self.now c.pass.new.self c.pass.ensures, c.requires.ready.few)

pub happen-requires-clause-ready : goal.happen-requires-clause-ready
happen-requires-clause-ready c =
    c.draw-kind.ensures.ready (c.draw-number.ensures.ready (subst IsReady (sym c.pass.ensures) (ready_passed c.args.self.now c.requires.ready c.requires.moment)))

pub happen-requires-clause-life : goal.happen-requires-clause-life
happen-requires-clause-life c =
    omega (
      arith,
      ap (λ (w : World). w.life) c.draw-kind.ensures.drawn,
      ap (λ (w : World). w.life) c.draw-number.ensures.drawn,
      ap (λ (w : World). w.life) c.pass.ensures,
      life_passed c.args.self.now,
      c.requires.life,
    )
