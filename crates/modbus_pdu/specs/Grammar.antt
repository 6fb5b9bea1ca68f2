-- The protocol data units of functions 03 and 16 (Modbus Application Protocol V1.1b3).
use Rattle.std.specs.Prelude.{◌≡◌, ℕ, ◌+◌, ◌*◌, ◌/◌, ◌%◌, ◌<◌, ◌≤◌, ◌⊎◌, List, [], ◌∷◌, ◌++◌, length}
use Rattle.std.specs.List.{flat_map, AllByRecursion}
use Rattle.modbus_pdu.specs.declared.pdu.Request.{Request}
use Rattle.modbus_pdu.specs.declared.pdu.Request.TheVariants.{ReadRegs, WriteRegs}
use Rattle.modbus_pdu.specs.declared.pdu.Reply.{Reply}
use Rattle.modbus_pdu.specs.declared.pdu.Reply.TheVariants as reply

-- what a field of one byte, and one of two bytes, can hold
abbrev pub IsByte : ℕ → Type 0
IsByte n = n < 256

abbrev pub IsWord : ℕ → Type 0
IsWord n = n < 65536

-- a field of two bytes, the high one first (section 4.2, Data Encoding)
abbrev pub word : ℕ → List ℕ
word n = n / 256 ∷ n % 256 ∷ []

-- registers, one behind the other
abbrev pub words : List ℕ → List ℕ
words values = flat_map word values

-- the most bytes of one protocol data unit, function byte and all (section 4.1)
abbrev pub pdu_limit : ℕ
pdu_limit = 253

-- the most registers that one read, and one write, may name (sections 6.3 and 6.12)
abbrev pub read_limit : ℕ
read_limit = 125

abbrev pub write_limit : ℕ
write_limit = 123

abbrev pub IsReadCount : ℕ → Type 0
IsReadCount n = (1 ≤ n) × (n ≤ read_limit)

abbrev pub IsWriteCount : ℕ → Type 0
IsWriteCount n = (1 ≤ n) × (n ≤ write_limit)

-- the two functions, Read Holding Registers and Write Multiple Registers (sections 6.3 and 6.12)
abbrev pub read_function : ℕ
read_function = 3

abbrev pub write_function : ℕ
write_function = 16

abbrev pub IsFunction : ℕ → Type 0
IsFunction n = (n ≡ read_function) ⊎ (n ≡ write_function)

-- what an exception adds to the function of its request (section 7)
abbrev pub exception_bit : ℕ
exception_bit = 128

-- The requests that have a spelling.
abbrev pub HasRequestForm : Request → Type 0
HasRequestForm (ReadRegs start count) = IsReadCount count
HasRequestForm (WriteRegs start values) = IsWriteCount (length values)

-- The replies that have a spelling.
abbrev pub HasReplyForm : Reply → Type 0
HasReplyForm (reply.Regs values) = IsReadCount (length values)
HasReplyForm (reply.Wrote start count) = IsWriteCount count
HasReplyForm (reply.Exception function code) = IsFunction function

-- A request's bytes, all of them, field by field. Function 03 has the starting address and the quantity of
-- registers; function 16 has these, the byte count and the registers.
abbrev pub IsRequest : List ℕ → Request → Type 0
IsRequest bytes (ReadRegs start count) =
    IsReadCount count × IsWord start × (bytes ≡ read_function ∷ word start ++ word count)
IsRequest bytes (WriteRegs start values) =
    IsWriteCount (length values) × IsWord start × AllByRecursion IsWord values
    × (bytes
    ≡ write_function ∷ word start ++ word (length values) ++ (2 * length values) ∷ words values)

-- A reply's bytes. Function 03 has the byte count and the registers; function 16 has the starting address and
-- the quantity of registers; an exception has the function with its highest bit set, and any code (section
-- 7).
abbrev pub IsReply : List ℕ → Reply → Type 0
IsReply bytes (reply.Regs values) =
    IsReadCount (length values) × AllByRecursion IsWord values
    × (bytes ≡ read_function ∷ (2 * length values) ∷ words values)
IsReply bytes (reply.Wrote start count) =
    IsWriteCount count × IsWord start × (bytes ≡ write_function ∷ word start ++ word count)
IsReply bytes (reply.Exception function code) =
    IsFunction function × IsByte code × (bytes ≡ (function + exception_bit) ∷ code ∷ [])
