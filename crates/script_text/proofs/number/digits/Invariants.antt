use Rattle.std.proofs.Common.{◌≡◌, drop}
use Rattle.script_text.specs.Reading.{digits_at, number_most}
use Rattle.script_text.proofs.number.digits.Given as goal

abbrev pub invariant-loop-i : goal.invariant-loop-i
invariant-loop-i l = digits_at number_most l.number (drop l.i l.bytes) ≡ digits_at number_most l.first l.bytes
