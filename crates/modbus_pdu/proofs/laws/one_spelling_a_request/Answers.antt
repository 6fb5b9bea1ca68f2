use Rattle.std.proofs.Common.{◌≡◌, ℕ, List}
use Rattle.modbus_pdu.specs.Grammar.{IsRequest}
use Rattle.modbus_pdu.specs.declared.pdu.Request.{Request}
use Rattle.modbus_pdu.specs.declared.pdu.Request.TheVariants.{ReadRegs, WriteRegs}
use Rattle.modbus_pdu.proofs.Words.{word_injective, words_injective}
use Rattle.modbus_pdu.proofs.laws.one_spelling_a_request.Goals as goal

one_request : (bytes : List ℕ) (x y : Request) → IsRequest bytes x → IsRequest bytes y → x ≡ y
one_request bytes (ReadRegs start count) (ReadRegs start' count') x y =
    let start_is : start ≡ start' = word_injective start start' cc in
    let count_is : count ≡ count' = word_injective count count' cc in
    cc (start_is, count_is)
one_request bytes (ReadRegs start count) (WriteRegs start' values) x y = cc (x.2, y.3)
one_request bytes (WriteRegs start values) (ReadRegs start' count) x y = cc (x.3, y.2)
one_request bytes (WriteRegs start values) (WriteRegs start' values') x y =
    let start_is : start ≡ start' = word_injective start start' cc in
    let values_are : values ≡ values' = words_injective values values' cc in
    cc (start_is, values_are)

pub returns-clause-one_request : goal.returns-clause-one_request
returns-clause-one_request c = one_request
