use Rattle.stream_io.specs.Streams.{change}
use Rattle.run_command.proofs.Runs.{due}
use Rattle.run_command.proofs.command.run.Goals as goal

pub returns-clause-due : goal.returns-clause-due
returns-clause-due g c = due g.N.Dialer.links g.N.Dialer.faults (g.K.Clock.may_give c.args.clock.now) c.args.turns c.run_plant.ensures.ends.0
    (change g.S.Source.left g.S.Source.faults c.args.site.now c.run_plant.new.site) (change g.C.Source.left g.C.Source.faults c.args.console.now c.run_plant.new.console)
    (change g.O.Sink.taken g.O.Sink.faults c.args.out.now c.run_plant.new.out)
    c.args.dialers.now.items c.run_plant.new.dialers.items c.run_plant.result c.run_plant.ensures.ends.1
