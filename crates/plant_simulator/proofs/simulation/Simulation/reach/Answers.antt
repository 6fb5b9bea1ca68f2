use Rattle.std.proofs.Common.{length, sym, subst, ap, arith}
use Rattle.plant_simulator.specs.World.{World}
use Rattle.plant_simulator.specs.Inverter.{without_first}
use Rattle.plant_simulator.specs.Ready.{IsReady}
use Rattle.plant_simulator.proofs.Lists.{length-changed_at}
use Rattle.plant_simulator.proofs.Ready.{ready_changed}
use Rattle.plant_simulator.proofs.simulation.Simulation.reach.Goals as goal

pub deliver-requires-2-clause-ready : goal.deliver-requires-2-clause-ready
deliver-requires-2-clause-ready c =
    subst IsReady (sym c.drop_first-2.ensures) (ready_changed c.args.number without_first c.draw-kept.new.self (c.draw-kept.ensures.ready (c.draw-lost.ensures.ready c.requires.ready)))

pub deliver-requires-2-clause-of_site : goal.deliver-requires-2-clause-of_site
deliver-requires-2-clause-of_site c =
    omega (
      arith,
      ap (λ (w : World). length w.inverters) c.drop_first-2.ensures,
      length-changed_at c.draw-kept.new.self.inverters c.args.number without_first,
      ap (λ (w : World). length w.inverters) c.draw-kept.ensures.drawn,
      ap (λ (w : World). length w.inverters) c.draw-lost.ensures.drawn,
    )
