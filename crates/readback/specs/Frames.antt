-- The requests to the limit of an inverter as they go over the wire (Modbus Application Protocol V1.1b3; SunSpec DER AC Controls).
use Rattle.std.specs.Prelude.{ℕ, ◌+◌, ◌*◌, List, ◌∷◌, ◌++◌, length}
use Rattle.modbus_pdu.specs.Grammar.{word, words}
use Rattle.mbap_frames.specs.declared.frame.Frame.{Frame}
use Rattle.der_models.specs.Limit.{limit_registers}
use Rattle.limiter_num.specs.declared.rules.Rules.{Rules}
use Rattle.plant_book.specs.declared.call.Read as reads
use Rattle.plant_book.specs.declared.call.Write as writes
use Rattle.plant_book.specs.declared.site.Unit as units
use Rattle.plant_book.specs.Port.{PortRecord}

-- a read of holding registers, function 03: the starting address and the quantity (section 6.3)
unfoldable pub read_pdu : (start count : ℕ) → List ℕ
read_pdu start count = 3 ∷ word start ++ word count

-- a write of holding registers, function 16: the starting address, the quantity, the byte count and the registers (section 6.12)
unfoldable pub write_pdu : (start : ℕ) (values : List ℕ) → List ℕ
write_pdu start values = 16 ∷ word start ++ word (length values) ++ (2 * length values) ∷ words values

-- the address of WMaxLimPctEna, the first register of the limit: 14 behind the identifier of model 704
abbrev pub limit_address : PortRecord → ℕ
limit_address port = port.base + 14

-- a limit with the floor to revert to and the timer: the six registers 1, raw, floor, 1, high half and low half of the timer
abbrev pub limit_pdu : (raw : ℕ) → units.Unit → PortRecord → Rules → List ℕ
limit_pdu raw unit port rules = write_pdu (limit_address port) (limit_registers raw unit.floor rules.timer)

-- the eight registers of the limit, from WMaxLimPctEna to WMaxLimPctRvrtRem
abbrev pub read_back_pdu : PortRecord → List ℕ
read_back_pdu port = read_pdu (limit_address port) 8

-- The frame of a write, and of a read: its number as the transaction, the unit number of the port, and that PDU.
abbrev pub write_frame : writes.Write → units.Unit → PortRecord → Rules → Frame
write_frame write unit port rules =
    record { transaction = write.number; unit = port.unit; pdu = limit_pdu write.raw unit port rules }

abbrev pub read_frame : reads.Read → PortRecord → Frame
read_frame read port = record { transaction = read.number; unit = port.unit; pdu = read_back_pdu port }
