use Rattle.stream_io.specs.Streams.{change}
use Rattle.nested_replay.specs.Replay.{IsNestedReplay}
use Rattle.script_command.proofs.Ending.{due}
use Rattle.nested_command.specs.Nested.{RefusesNested}
use Rattle.nested_command.proofs.Nesting.{one_meaning}
use Rattle.nested_command.proofs.command.nested.Goals as goal

pub returns-clause-due : goal.returns-clause-due
returns-clause-due g c = due IsNestedReplay RefusesNested (one_meaning c.one_nested_replay.ensures.one c.one_nested_replay.ensures.not_refused)
    c.run_script.result c.run_script.ensures.ends.0 (change g.S.Source.left g.S.Source.faults c.args.input.now c.run_script.new.input) (change g.O.Sink.taken g.O.Sink.faults c.args.out.now c.run_script.new.out) c.run_script.ensures.ends.1
