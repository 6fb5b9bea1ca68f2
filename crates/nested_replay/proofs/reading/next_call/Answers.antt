use Rattle.nested_replay.proofs.Calls.{no_fault, line_is_call, call_is_read}
use Rattle.nested_replay.proofs.reading.next_call.Goals as goal

pub call_of-requires : goal.call_of-requires
call_of-requires c = line_is_call c.args.lines.now c.next_line.new.self c.in-Ok-Some.line c.requires (rw c.in-Ok-Some.field-0-is at c.in-Ok-Some.ensures)

pub returns-in-Ok-Some : goal.returns-in-Ok-Some
returns-in-Ok-Some c =
    call_is_read c.args.lines.now c.next_line.new.self c.in-Ok-Some.line c.call_of.result c.requires (rw c.in-Ok-Some.field-0-is at c.in-Ok-Some.ensures) c.call_of.ensures

pub unreachable-requires : goal.unreachable-requires
unreachable-requires c = no_fault c.args.lines.now c.in-Err.field-0 c.requires c.in-Err.ensures
