use Rattle.std.proofs.Common.{ℕ, List}
use Rattle.script_text.specs.declared.line.Line.{Line}
use Rattle.script_text.specs.Script.{ScriptRecord}
use Rattle.script_text.specs.Reader.{CanGoOn, HasRead, bytes_ahead, with_lines}
use Rattle.script_text.proofs.lines.judge_rest.Given as goal

abbrev pub invariant-loop : goal.invariant-loop
invariant-loop l = record {
  can_go_on : CanGoOn l.lines;
  read : (bytes : List ℕ) (script : ScriptRecord) → HasRead bytes script l.fn.lines → (more : List Line) × HasRead bytes (with_lines script more) l.lines;
}

abbrev pub decreases-loop : goal.decreases-loop
decreases-loop l = bytes_ahead l.lines
