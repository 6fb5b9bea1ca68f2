use Rattle.std.proofs.Common.{ℕ, List}
use Rattle.script_text.specs.Script.{ScriptRecord}
use Rattle.script_text.specs.Reader.{CanGoOn, HasRead, bytes_ahead, with_lines}
use Rattle.script_text.proofs.script.all_lines.Given as goal

abbrev pub invariant-loop-taken : goal.invariant-loop-taken
invariant-loop-taken l = record {
  can_go_on : CanGoOn l.lines;
  read : (bytes : List ℕ) (script : ScriptRecord) → HasRead bytes script l.fn.lines → HasRead bytes (with_lines script l.taken.items) l.lines;
}

abbrev pub decreases-loop-taken : goal.decreases-loop-taken
decreases-loop-taken l = bytes_ahead l.lines
