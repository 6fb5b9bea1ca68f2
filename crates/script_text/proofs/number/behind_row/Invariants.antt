use Rattle.std.proofs.Common.{◌≡◌, drop}
use Rattle.script_text.specs.Reading.{behind_row}
use Rattle.script_text.proofs.number.behind_row.Given as goal

abbrev pub invariant-loop-i : goal.invariant-loop-i
invariant-loop-i l = behind_row (drop l.i l.bytes) ≡ behind_row l.bytes
