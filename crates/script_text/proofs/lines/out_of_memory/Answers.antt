use Rattle.script_text.proofs.Reader.{sized_none_bad}
use Rattle.script_text.proofs.Taken.{bad_explains}
use Rattle.script_text.proofs.lines.out_of_memory.Goals as goal

pub returns-in-Ok : goal.returns-in-Ok
returns-in-Ok c = sized_none_bad c.args.bytes.now _ c.in-Ok.ensures

pub returns-in-Err : goal.returns-in-Err
returns-in-Err c = bad_explains c.in-Err.fault c.args.bytes.now c.in-Err.ensures
