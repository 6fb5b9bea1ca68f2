use Rattle.stream_io.specs.Streams.{change}
use Rattle.replay_command.proofs.Replaying.{replay_due}
use Rattle.replay_command.proofs.command.replay.Goals as goal

pub returns-clause-due : goal.returns-clause-due
returns-clause-due g c = replay_due c.one_replay.ensures.one c.one_replay.ensures.not_refused c.one_replay.ensures.one_fault c.room_is_enough.ensures.not_refused c.room_is_enough.ensures.not_full
    c.run_script.result c.run_script.ensures.ends.0 (change g.S.Source.left g.S.Source.faults c.args.input.now c.run_script.new.input) (change g.O.Sink.taken g.O.Sink.faults c.args.out.now c.run_script.new.out) c.run_script.ensures.ends.1
