use Rattle.std.proofs.Common.{◌≡◌, ℕ, ◌<◌, ◌+◌, ◌∷◌, [], List, arith}
use Rattle.modbus_pdu.specs.Grammar.{IsReply, IsFunction}
use Rattle.modbus_pdu.specs.declared.pdu.Reply.{Reply}
use Rattle.modbus_pdu.specs.declared.pdu.Reply.TheVariants.{Regs, Wrote, Exception}
use Rattle.modbus_pdu.proofs.Words.{word_injective, words_injective}
use Rattle.modbus_pdu.proofs.laws.one_spelling_a_reply.Goals as goal

-- an exception's function byte is neither of the functions
apart : (function code n : ℕ) (bytes rest : List ℕ) → IsFunction function → n < 128 → bytes ≡ (function + 128) ∷ code ∷ [] → bytes ≡ n ∷ rest → ⊥
apart function code n bytes rest is small x y =
    let same : function + 128 ≡ n = cc in
    omega arith

one_reply : (bytes : List ℕ) (x y : Reply) → IsReply bytes x → IsReply bytes y → x ≡ y
one_reply bytes (Regs values) (Regs values') x y =
    let values_are : values ≡ values' = words_injective values values' cc in
    cc values_are
one_reply bytes (Regs values) (Wrote start count) x y = cc (x.2, y.2)
one_reply bytes (Regs values) (Exception function code) x y = absurd (apart function code 3 bytes _ y.0 (omega arith) y.2 x.2)
one_reply bytes (Wrote start count) (Regs values) x y = cc (x.2, y.2)
one_reply bytes (Wrote start count) (Wrote start' count') x y =
    let start_is : start ≡ start' = word_injective start start' cc in
    let count_is : count ≡ count' = word_injective count count' cc in
    cc (start_is, count_is)
one_reply bytes (Wrote start count) (Exception function code) x y = absurd (apart function code 16 bytes _ y.0 (omega arith) y.2 x.2)
one_reply bytes (Exception function code) (Regs values) x y = absurd (apart function code 3 bytes _ x.0 (omega arith) x.2 y.2)
one_reply bytes (Exception function code) (Wrote start count) x y = absurd (apart function code 16 bytes _ x.0 (omega arith) x.2 y.2)
one_reply bytes (Exception function code) (Exception function' code') x y =
    let sum_is : function + 128 ≡ function' + 128 = cc in
    let function_is : function ≡ function' = omega arith in
    let code_is : code ≡ code' = cc in
    cc (function_is, code_is)

pub returns-clause-one_reply : goal.returns-clause-one_reply
returns-clause-one_reply c = one_reply
