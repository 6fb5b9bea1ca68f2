use Rattle.std.proofs.Common.{length, sym, subst, ap, arith}
use Rattle.plant_simulator.specs.World.{World}
use Rattle.plant_simulator.specs.Inverter.{without_old}
use Rattle.plant_simulator.specs.Ready.{IsReady}
use Rattle.plant_simulator.proofs.Lists.{length-changed_at}
use Rattle.plant_simulator.proofs.Ready.{ready_changed}
use Rattle.plant_simulator.proofs.simulation.Simulation.act_late.Goals as goal

pub act-requires-clause-ready : goal.act-requires-clause-ready
act-requires-clause-ready c =
    subst IsReady (sym c.in_ok-chosen.ensures.left) (ready_changed c.args.number (without_old c.args.place c.in_ok-chosen.chosen) c.args.self.now c.requires.ready)

pub act-requires-clause-of_site : goal.act-requires-clause-of_site
act-requires-clause-of_site c =
    omega (
      arith,
      ap (λ (w : World). length w.inverters) c.in_ok-chosen.ensures.left,
      length-changed_at c.args.self.now.inverters c.args.number (without_old c.args.place c.in_ok-chosen.chosen),
    )
