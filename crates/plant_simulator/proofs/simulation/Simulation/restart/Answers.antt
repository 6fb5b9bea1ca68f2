use Rattle.std.proofs.Common.{sym, subst}
use Rattle.plant_simulator.specs.Ready.{IsReady}
use Rattle.plant_simulator.proofs.Ready.{ready_next}
use Rattle.plant_simulator.proofs.simulation.Simulation.restart.Goals as goal

pub link_all-requires-clause-ready : goal.link_all-requires-clause-ready
link_all-requires-clause-ready c = subst IsReady (sym c.in_ok-end_life.ensures) (ready_next c.args.self.now c.requires.ready)
