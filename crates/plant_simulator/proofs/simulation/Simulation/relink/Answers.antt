use Rattle.std.proofs.Common.{length, sym, subst, ap, arith}
use Rattle.plant_simulator.specs.World.{World}
use Rattle.plant_simulator.specs.Inverter.{emptied}
use Rattle.plant_simulator.specs.Ready.{IsReady}
use Rattle.plant_simulator.proofs.Lists.{length-changed_at}
use Rattle.plant_simulator.proofs.Ready.{ready_changed}
use Rattle.plant_simulator.proofs.simulation.Simulation.relink.Goals as goal

pub link-requires-clause-ready : goal.link-requires-clause-ready
link-requires-clause-ready c =
    subst IsReady (sym c.in_ok-empty.ensures) (ready_changed c.args.number (emptied c.args.self.now.life) c.args.self.now c.requires.ready)

pub link-requires-clause-of_site : goal.link-requires-clause-of_site
link-requires-clause-of_site c =
    omega (
      arith,
      ap (λ (w : World). length w.inverters) c.in_ok-empty.ensures,
      length-changed_at c.args.self.now.inverters c.args.number (emptied c.args.self.now.life),
    )
