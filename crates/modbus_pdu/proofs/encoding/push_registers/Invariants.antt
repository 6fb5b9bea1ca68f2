use Rattle.std.proofs.Common.{◌≡◌, ℕ, ◌*◌, ◌<◌, ◌++◌, ◌∷◌, length, take, get_or}
use Rattle.modbus_pdu.specs.Grammar.{words, IsWord}
use Rattle.modbus_pdu.proofs.encoding.push_registers.Given as goal

-- the registers so far are written, and each fits its field
abbrev pub invariant-loop-value : goal.invariant-loop-value
invariant-loop-value l =
    (l.pdu ≡ l.fn.pdu ++ (2 * length l.values) ∷ words (take l.value-index l.value-items))
    × ((i : ℕ) → i < l.value-index → IsWord (get_or l.value-items i 0))
