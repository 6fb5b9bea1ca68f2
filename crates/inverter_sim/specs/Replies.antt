-- What a simulated inverter answers to a request, and what it holds then.
use Rattle.std.specs.Prelude.{ℕ, ◌+◌, Bool, not, ◌&&◌, ◌||◌, ◌==◌, nat_lt, nat_le, if◌then◌else◌, List, map, length, slice_index, Option, Some, None, is_none}
use Rattle.std.specs.List.{list_any, range_with_len}
use Rattle.limiter_num.specs.declared.rules.Rules.{Rules}
use Rattle.limiter_num.specs.Rating.{full}
use Rattle.plant_book.specs.declared.site.Unit as units
use Rattle.modbus_pdu.specs.declared.pdu.Request.{Request}
use Rattle.modbus_pdu.specs.declared.pdu.Request.TheVariants.{ReadRegs, WriteRegs}
use Rattle.modbus_pdu.specs.declared.pdu.Reply.{Reply}
use Rattle.modbus_pdu.specs.declared.pdu.Reply.TheVariants as reply
use Rattle.modbus_pdu.specs.Grammar.{IsReadCount}
use Rattle.scale_points.specs.Numbers.{double_word}
use Rattle.inverter_sim.specs.Bank.{BankRecord, bank_at}
use Rattle.inverter_sim.specs.RegisterMap.{register}

-- a read asks for as many registers as one may (Modbus Application Protocol V1.1b3, section 6.3)
abbrev pub HasReadCount : Request → Type 0
HasReadCount (ReadRegs start count) = IsReadCount count
HasReadCount (WriteRegs start values) = Unit {0}

-- whether the map has no register at an address
abbrev pub is_outside : ℕ → Bool
is_outside address = nat_lt address 40000 || nat_lt 40364 address

-- whether a write is of exactly the six registers from WMaxLimPctEna on
abbrev pub is_limit_block : ℕ → List ℕ → Bool
is_limit_block start values = (start == 40310) && (length values == 6)

-- whether six registers set a limit that the inverter takes: WMaxLimPctEna is 1, WMaxLimPct is at most 100
-- percent, WMaxLimPctRvrt is the floor, WMaxLimPctEnaRvrt is 1, and WMaxLimPctRvrtTms is the timer
abbrev pub sets_limit : units.Unit → Rules → List ℕ → Bool
sets_limit unit rules values = (slice_index values 0 == 1)
    && nat_le (slice_index values 1) (full unit.rating)
    && (slice_index values 2 == unit.floor)
    && (slice_index values 3 == 1)
    && (double_word (slice_index values 4) (slice_index values 5) == rules.timer)

-- the code with which a read, or a write, is refused (section 7): 2 for an illegal address, 3 for an illegal
-- value
abbrev pub read_refusal : ℕ → ℕ → Option ℕ
read_refusal start count = if list_any is_outside (range_with_len start count) then Some 2 else None

abbrev pub write_refusal : units.Unit → Rules → ℕ → List ℕ → Option ℕ
write_refusal unit rules start values =
    if not (is_limit_block start values) then Some 2
    else if not (sets_limit unit rules values) then Some 3
    else None

-- the exception, or where there is none the answer
abbrev pub refusal_or : ℕ → Option ℕ → Reply → Reply
refusal_or function None answer = answer
refusal_or function (Some code) answer = reply.Exception function code

-- the reply of a bank as it stands
abbrev pub reply_to : BankRecord → Request → Reply
reply_to bank (ReadRegs start count) =
    refusal_or 3 (read_refusal start count) (reply.Regs (map (register bank) (range_with_len start count)))
reply_to bank (WriteRegs start values) =
    refusal_or 16 (write_refusal bank.unit bank.rules start values) (reply.Wrote start (length values))

-- the raw percentage that a request sets, where it is a write that the inverter takes
abbrev pub taken_limit : units.Unit → Rules → Request → Option ℕ
taken_limit unit rules (ReadRegs start count) = None
taken_limit unit rules (WriteRegs start values) =
    if is_none (write_refusal unit rules start values) then Some (slice_index values 1) else None

-- a limit that was taken is held from the last moment on, until the time of the bank has passed
abbrev pub with_limit : BankRecord → Option ℕ → BankRecord
with_limit bank None = bank
with_limit bank (Some raw) = record bank { raw = raw; revert = Some (bank.last + bank.after) }

-- the reply to a request at a moment, and the bank after it: first a revert comes that is due
abbrev pub reply_of : BankRecord → ℕ → Request → Reply
reply_of bank now request = reply_to (bank_at now bank) request

abbrev pub state_after : BankRecord → ℕ → Request → BankRecord
state_after bank now request = with_limit (bank_at now bank) (taken_limit bank.unit bank.rules request)
