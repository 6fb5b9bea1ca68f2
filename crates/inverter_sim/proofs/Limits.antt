-- A limit up to 100 percent is taken, and shown.
use Rattle.std.proofs.Common.{◌≡◌, ℕ, ◌+◌, ◌*◌, ◌/◌, ◌%◌, ◌≤◌, ◌∷◌, ◌++◌, [], Some, refl, arith, eq-eqb, le-leb}
use Rattle.limiter_num.specs.declared.rules.Rules.{Rules}
use Rattle.limiter_num.specs.Rating.{full}
use Rattle.plant_book.specs.declared.site.Unit as units
use Rattle.modbus_pdu.specs.declared.pdu.Request.TheVariants.{ReadRegs, WriteRegs}
use Rattle.modbus_pdu.specs.declared.pdu.Reply.TheVariants as reply
use Rattle.der_models.specs.Limit.{limit_registers}
use Rattle.inverter_sim.specs.Bank.{BankRecord}
use Rattle.inverter_sim.specs.RegisterMap.{high, low, seconds_left, contents}
use Rattle.inverter_sim.specs.Replies.{taken_limit, reply_to}

pub limit_is_taken : (unit : units.Unit) (rules : Rules) (raw : ℕ) → raw ≤ full unit.rating
    → taken_limit unit rules (WriteRegs 40310 (limit_registers raw unit.floor rules.timer)) ≡ Some raw
limit_is_taken unit rules raw within =
    let timer : 65536 * (rules.timer / 65536) + rules.timer % 65536 ≡ rules.timer = omega arith in
    rw (le-leb raw (full unit.rating) within, eq-eqb unit.floor unit.floor refl, eq-eqb _ _ timer)

pub limit_is_shown : (bank : BankRecord) → reply_to bank (ReadRegs 40310 8)
    ≡ reply.Regs (limit_registers bank.raw bank.unit.floor bank.rules.timer
    ++ high (seconds_left bank.last bank.revert) ∷ low (seconds_left bank.last bank.revert) ∷ [])
unfolding contents
limit_is_shown bank = refl
