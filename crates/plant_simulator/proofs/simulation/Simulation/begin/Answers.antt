use Rattle.std.proofs.Common.{sym, subst}
use Rattle.plant_simulator.specs.Ready.{IsReady}
use Rattle.plant_simulator.proofs.Running.{ready_unlinked}
use Rattle.plant_simulator.proofs.simulation.Simulation.begin.Goals as goal

pub link_all-requires-clause-ready : goal.link_all-requires-clause-ready
link_all-requires-clause-ready c = subst IsReady (sym c.in_ok-simulation.ensures) (ready_unlinked c.args.seed c.args.inverters c.requires.some c.requires.few)
