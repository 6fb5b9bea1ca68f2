use Rattle.std.proofs.Common.{◌∙◌, ap, Some, arith}
use Rattle.modbus_pdu.proofs.Words.{counted, words_injective}
use Rattle.modbus_pdu.proofs.decoding.counted_registers.Goals.{then-len-from-via-then-len-from, then-len-from-via-else-len-from+then-len-ne0, then-len-from-via-else-len-from+else-len-ne0+then-len}
use Rattle.modbus_pdu.proofs.decoding.counted_registers.Goals as goal

pub returns-then-len-from-clause-only : goal.returns-then-len-from-clause-only
returns-then-len-from-clause-only c = λ values fits spelled.
    let is = counted c.args.bytes.now _ _ values c.in_ok-byte_count.ensures.cases.0 spelled in
    elim c.then-len-from.branch [
      | then-len-from-via-then-len-from w ↦ absurd (omega arith)
      | then-len-from-via-else-len-from+then-len-ne0 w ↦ absurd (omega arith)
      | then-len-from-via-else-len-from+else-len-ne0+then-len w ↦ absurd (omega arith)
    ]

pub returns-clause-only : goal.returns-clause-only
returns-clause-only c = λ values fits spelled.
    let is = counted c.args.bytes.now _ _ values c.in_ok-byte_count.ensures.cases.0 spelled in
    ap Some (words_injective c.registers_of.result values (c.registers_of.ensures.spelled ∙ is.spelled))
