-- The reply that a PDU is: the one that the grammar of replies has for its bytes, which `replies_by_the_grammar` shows.
use Rattle.std.specs.Prelude.{ℕ, ◌+◌, ◌*◌, ◌==◌, nat_le, ◌&&◌, List, [], ◌∷◌, length, Option, Some, None, if◌then◌else◌}
use Rattle.modbus_pdu.specs.declared.pdu.Reply.{Reply}
use Rattle.modbus_pdu.specs.declared.pdu.Reply.TheVariants as reply

-- the registers that lie in these bytes, the high byte of each first
abbrev pub registers_in : List ℕ → List ℕ
registers_in [] = []
registers_in (high ∷ []) = []
registers_in (high ∷ low ∷ bytes) = (256 * high + low) ∷ registers_in bytes

-- function 03: the byte count, and the bytes of 1 to 125 registers
abbrev pub registers_reply : List ℕ → Option Reply
registers_reply [] = None
registers_reply (count ∷ bytes) =
    let values = registers_in bytes in
    if (length bytes == 2 * length values) && (count == length bytes) && nat_le 1 (length values) && nat_le (length values) 125
    then Some (reply.Regs values) else None

-- function 16: the starting address, and the quantity of 1 to 123 registers
abbrev pub wrote_reply : List ℕ → Option Reply
wrote_reply (a ∷ b ∷ c ∷ d ∷ []) =
    let count = 256 * c + d in
    if nat_le 1 count && nat_le count 123 then Some (reply.Wrote (256 * a + b) count) else None
wrote_reply _ = None

-- an exception to a function: its code
abbrev pub exception_reply : ℕ → List ℕ → Option Reply
exception_reply function (code ∷ []) = Some (reply.Exception function code)
exception_reply function _ = None

-- the reply that these bytes are; none where they are no reply
unfoldable pub reply_of : List ℕ → Option Reply
reply_of [] = None
reply_of (function ∷ fields) =
    if function == 3 then registers_reply fields
    else if function == 16 then wrote_reply fields
    else if function == 131 then exception_reply 3 fields
    else if function == 144 then exception_reply 16 fields
    else None
