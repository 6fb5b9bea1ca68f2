use Rattle.std.proofs.Common.{◌≡◌, drop}
use Rattle.script_text.specs.Reading.{remark_at}
use Rattle.script_text.proofs.number.remark.Given as goal

abbrev pub invariant-loop-i : goal.invariant-loop-i
invariant-loop-i l = remark_at (drop l.i l.bytes) ≡ remark_at l.bytes
