use Rattle.std.proofs.Common.{◌≡◌, ◌+◌, ◌*◌, ◌++◌, length}
use Rattle.std.specs.List.{AllByRecursion}
use Rattle.modbus_pdu.specs.Grammar.{words, IsWord}
use Rattle.modbus_pdu.proofs.decoding.registers_of.Given as goal

-- the registers so far and the bytes that are left are the bytes
abbrev pub invariant-loop-rest : goal.invariant-loop-rest
invariant-loop-rest l =
    (words l.registers ++ l.rest ≡ l.fn.bytes)
    × AllByRecursion IsWord l.registers
    × (2 * length l.registers + length l.rest ≡ length l.fn.bytes)

abbrev pub decreases-loop-rest : goal.decreases-loop-rest
decreases-loop-rest l = length l.rest
