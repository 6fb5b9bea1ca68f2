-- Calls of a simulated inverter one after the other, and for how long it holds what it takes.
use Rattle.std.specs.Prelude.{◌≡◌, ℕ, ◌≤◌, List, [], ◌∷◌, ◌++◌, Option, Some, None}
use Rattle.std.specs.List.{AllByRecursion}
use Rattle.limiter_num.specs.declared.rules.Rules.{Rules}
use Rattle.plant_book.specs.declared.site.Unit as units
use Rattle.modbus_pdu.specs.declared.pdu.Request.{Request}
use Rattle.inverter_sim.specs.Bank.{BankRecord, bank_at}
use Rattle.inverter_sim.specs.Replies.{taken_limit, state_after}

-- a request that is answered at a moment, or a look at what is held then
pub data Call : Type 0 where
  Asked : (now : ℕ) (request : Request) → Call
  Looked : (now : ℕ) → Call

abbrev pub moment : Call → ℕ
moment (Asked now request) = now
moment (Looked now) = now

-- the bank after a call, and after several
abbrev pub state_after_call : BankRecord → Call → BankRecord
state_after_call bank (Asked now request) = state_after bank now request
state_after_call bank (Looked now) = bank_at now bank

abbrev pub state_after_calls : BankRecord → List Call → BankRecord
state_after_calls bank [] = bank
state_after_calls bank (call ∷ calls) = state_after_calls (state_after_call bank call) calls

-- the raw percentage of a write that the inverter takes
abbrev pub limit_of_call : units.Unit → Rules → Call → Option ℕ
limit_of_call unit rules (Asked now request) = taken_limit unit rules request
limit_of_call unit rules (Looked now) = None

-- none of these calls is a write that the bank takes
abbrev pub TakeNone : BankRecord → List Call → Type 0
TakeNone bank calls = AllByRecursion (λ call. limit_of_call bank.unit bank.rules call ≡ None) calls

-- these calls came up to a moment
abbrev pub CameBy : ℕ → List Call → Type 0
CameBy now calls = AllByRecursion (λ call. moment call ≤ now) calls

-- of these calls the last write that the bank took is this one, at this moment, of this raw percentage
pub record TookLast (bank : BankRecord) (calls : List Call) (at raw : ℕ) : Type 0 where
  pub before : List Call
  pub write : Request
  pub later : List Call
  pub stand : calls ≡ before ++ Asked at write ∷ later
  pub taken : taken_limit bank.unit bank.rules write ≡ Some raw
  pub none_later : TakeNone bank later
