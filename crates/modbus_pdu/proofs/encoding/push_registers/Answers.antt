use Rattle.std.proofs.Common.{◌≡◌, ◌*◌, length, take, arith, ap, ℕ}
use Rattle.std.proofs.lemmas.List.{length-take}
use Rattle.modbus_pdu.proofs.Words.{length-pushed, words_fit}
use Rattle.modbus_pdu.proofs.encoding.push_registers.Goals as goal

pub push_word-requires : goal.push_word-requires
push_word-requires c =
    let same : length c.as_slice-value-items.result.now ≡ length c.args.values.now = ap length c.as_slice-value-items.ensures.value in
    let values = take c.loop-value.value-index c.as_slice-value-items.result.now in
    let written = length-pushed c.loop-value.pdu c.args.pdu.now (2 * length c.args.values.now) values c.loop-value.invariant.0 in
    omega (arith, length-take {A = ℕ})

pub returns-clause-fields : goal.returns-clause-fields
returns-clause-fields c =
    rw (← c.as_slice-value-items.ensures.value)
    (words_fit c.as_slice-value-items.result.now (λ i below. c.loop-value.invariant.1 i (omega arith)))
