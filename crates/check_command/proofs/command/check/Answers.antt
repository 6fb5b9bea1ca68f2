use Rattle.stream_io.specs.Streams.{change}
use Rattle.check_command.proofs.Checking.{due}
use Rattle.check_command.proofs.command.check.Goals as goal

pub returns-clause-due : goal.returns-clause-due
returns-clause-due g c = due c.check_file.result c.check_file.ensures.ends.0
    (change g.S.Source.left g.S.Source.faults c.args.input.now c.check_file.new.input) (change g.O.Sink.taken g.O.Sink.faults c.args.out.now c.check_file.new.out) c.check_file.ensures.ends.1
