use Rattle.script_replay.proofs.Plays.{fault_explains}
use Rattle.script_replay.proofs.Refused.{sized_none, sized_some}
use Rattle.script_replay.proofs.reading.out_of_memory.Goals as goal

pub returns-in-Err : goal.returns-in-Err
returns-in-Err c = rw c.replay_fault.ensures (fault_explains c.in-Err.fault c.args.bytes.now c.in-Err.ensures)

pub returns-in-Some : goal.returns-in-Some
returns-in-Some c = sized_some c.args.bytes.now c.in-Ok.size c.in-Some.fault c.in-Ok.ensures (let found = c.refuse.ensures c.in-Ok.ensures.script.site c.in-Ok.ensures.size_is in rw c.in-Some.is at found)

pub returns-in-None : goal.returns-in-None
returns-in-None c = sized_none c.args.bytes.now c.in-Ok.size c.in-Ok.ensures (let found = c.refuse.ensures c.in-Ok.ensures.script.site c.in-Ok.ensures.size_is in rw c.in-None.is at found)
