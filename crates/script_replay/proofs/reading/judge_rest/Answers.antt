use Rattle.script_replay.proofs.Plays.{fault_explains}
use Rattle.script_replay.proofs.reading.judge_rest.Goals as goal

pub returns-in-Err : goal.returns-in-Err
returns-in-Err c = λ bytes script has. rw c.replay_fault.ensures (fault_explains c.in-Err.fault bytes (c.in-Err.ensures bytes script has))
