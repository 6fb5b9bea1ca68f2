-- What contracts see of a simulated inverter, and what it holds as time goes by.
use Rattle.std.specs.Prelude.{◌≡◌, ℕ, ◌+◌, ◌^◌, ◌≤◌, Bool, false, nat_le, if◌then◌else◌, Option, Some, None, IfSome}
use Rattle.limiter_num.specs.declared.rules.Rules.{Rules}
use Rattle.limiter_num.specs.Timers.{tmin, tmax}
use Rattle.limiter_num.specs.Rating.{full}
use Rattle.plant_book.specs.declared.site.Unit as units
use Rattle.inverter_sim.specs.HeldLimit.{LimitRecord, limit_at}

-- the inverter, the rules, its unit number, and for how many milliseconds it holds a limit; then the raw
-- percentage that it holds, the moment at which it reverts to its floor, where a revert is due, and the last
-- moment of a call
pub record BankRecord : Type 0 where
  pub unit : units.Unit
  pub rules : Rules
  pub number : ℕ
  pub after : ℕ
  pub raw : ℕ
  pub revert : Option ℕ
  pub last : ℕ

-- a bank as it is made: it holds its floor, and no revert is due
abbrev pub new_bank : units.Unit → Rules → ℕ → ℕ → BankRecord
new_bank unit rules number after = record {
  unit = unit;
  rules = rules;
  number = number;
  after = after;
  raw = unit.floor;
  revert = None;
  last = 0;
}

-- what is true of every bank: its time is one that the tolerance of the timer allows, what it holds is at
-- most 100 percent, and a revert that is due comes not before the last call, and at most that time later
pub record IsBank (bank : BankRecord) : Type 0 where
  pub after_low : tmin bank.rules ≤ bank.after
  pub after_high : bank.after ≤ tmax bank.rules
  pub raw : bank.raw ≤ full bank.unit.rating
  pub revert : IfSome bank.revert (λ moment. (bank.last ≤ moment) × (moment ≤ bank.last + bank.after))
  pub last : bank.last ≤ 10 ^ 15

-- the inverter is the same one as before, whatever it holds
pub record IsSameInverter (old new : BankRecord) : Type 0 where
  pub unit : new.unit ≡ old.unit
  pub rules : new.rules ≡ old.rules
  pub number : new.number ≡ old.number
  pub after : new.after ≡ old.after

-- the limit that a bank holds
abbrev pub limit_of : BankRecord → LimitRecord
limit_of bank = record { raw = bank.raw; revert = bank.revert }

-- the bank at a moment: a revert that is due by then has come
abbrev pub bank_at : ℕ → BankRecord → BankRecord
bank_at now bank =
    let limit = limit_at bank.unit.floor now (limit_of bank) in
    record bank { raw = limit.raw; revert = limit.revert; last = now }

-- the raw percentage that it holds at a moment
abbrev pub held_at : ℕ → BankRecord → ℕ
held_at now bank = (bank_at now bank).raw
