use Rattle.std.proofs.Common.{◌+◌, ◌^◌, ◌<◌, ◌≤◌, List, length}
use Rattle.script_text.specs.Grammar.{Statement}
use Rattle.script_text.specs.Progress.{Progress, IsAt}
use Rattle.script_text.proofs.rows.past_comments.Given as goal

abbrev pub invariant-loop-rest : goal.invariant-loop-rest
invariant-loop-rest l = record {
  few : l.number + length l.rest < 2 ^ 32;
  shorter : length l.rest ≤ length l.fn.rows.rest.now;
  number : l.fn.rows.number ≤ l.number;
  goes_on : (before : List Statement) → IsAt l.fn.rows before → Progress l.fn.rows.whole.now l.rest before l.number;
}

abbrev pub decreases-loop-rest : goal.decreases-loop-rest
decreases-loop-rest l = length l.rest
