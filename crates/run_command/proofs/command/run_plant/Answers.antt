use Rattle.run_command.specs.Run.{ran}
use Rattle.run_command.proofs.command.run_plant.Goals as goal

pub returns-clause-ends : goal.returns-clause-ends
returns-clause-ends g c = (
  c.in-Ok.ensures.file.0,
  ran c.in-Ok.file c.in-Ok-run_site.ran.plant c.in-Ok-run_site.ran.workers.items c.in-Ok-run_site.ran.console (g.O.Sink.taken c.run_site.new.out) (g.O.Sink.faults c.run_site.new.out)
      c.in-Ok.ensures.file.1 c.in-Ok-run_site.ensures.ran c.in-Ok-run_site.ensures.input_faults c.in-Ok-run_site.ensures.output_faults c.tell.ensures.told,
)
