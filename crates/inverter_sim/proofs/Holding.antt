-- Of calls that take no write nothing stays but the time, and a write is held from its moment on.
use Rattle.std.proofs.Common.{◌≡◌, ℕ, ◌+◌, ◌≤◌, true, false, leb, cond, List, [], ◌∷◌, ◌++◌, Option, Some, None, refl, ap, ◌∙◌, subst, arith, ◌⊎◌, inl, inr}
use Rattle.std.proofs.lemmas.Bool.Decides.{nat_tests}
use Rattle.inverter_sim.specs.Bank.{BankRecord, IsSameInverter, bank_at, held_at}
use Rattle.inverter_sim.specs.Replies.{taken_limit, with_limit}
use Rattle.inverter_sim.specs.Calls.{Call, Asked, Looked, moment, state_after_call, state_after_calls, limit_of_call, TakeNone, CameBy, TookLast}

-- this bank with another limit and revert
abbrev with : BankRecord → ℕ → Option ℕ → BankRecord
with bank raw revert = record bank { raw = raw; revert = revert }

early_or_not : (moment at : ℕ) → (leb moment at ≡ true) ⊎ (leb moment at ≡ false)
early_or_not moment at = grind (arith, nat_tests)

still_due : (moment at now : ℕ) → leb moment at ≡ true → at ≤ now → leb moment now ≡ true
still_due moment at now early low = grind (arith, nat_tests)

passed_with : (bank : BankRecord) (raw : ℕ) (revert : Option ℕ) (at now : ℕ) → at ≤ now → bank_at now (bank_at at (with bank raw revert)) ≡ bank_at now (with bank raw revert)
passed_with bank raw None at now low = refl
passed_with bank raw (Some moment) at now low = elim (early_or_not moment at) [
  | inl early ↦ (let due = still_due moment at now early low in rw (early, due))
  | inr not_yet ↦ rw not_yet
]

-- a moment that passes on the way to a later one changes nothing there
passed : (bank : BankRecord) (at now : ℕ) → at ≤ now → bank_at now (bank_at at bank) ≡ bank_at now bank
passed bank at now low = passed_with bank bank.raw bank.revert at now low

-- a call that takes no write changes nothing later
idle : (bank : BankRecord) (call : Call) (now : ℕ) → limit_of_call bank.unit bank.rules call ≡ None → moment call ≤ now → bank_at now (state_after_call bank call) ≡ bank_at now bank
idle bank (Asked at request) now none low = rw none (passed bank at now low)
idle bank (Looked at) now none low = passed bank at now low

-- the inverter stays the same
holding_same : (bank : BankRecord) (taken : Option ℕ) → IsSameInverter bank (with_limit bank taken)
holding_same bank None = record { unit = refl; rules = refl; number = refl; after = refl }
holding_same bank (Some raw) = record { unit = refl; rules = refl; number = refl; after = refl }

pub call_same : (bank : BankRecord) (call : Call) → IsSameInverter bank (state_after_call bank call)
call_same bank (Asked at request) =
    let same = holding_same (bank_at at bank) (taken_limit bank.unit bank.rules request) in
    record { unit = same.unit; rules = same.rules; number = same.number; after = same.after }
call_same bank (Looked at) = record { unit = refl; rules = refl; number = refl; after = refl }

calls_same : (bank : BankRecord) (calls : List Call) → IsSameInverter bank (state_after_calls bank calls)
calls_same bank [] = record { unit = refl; rules = refl; number = refl; after = refl }
calls_same bank (call ∷ calls) =
    let first = call_same bank call in
    let rest = calls_same (state_after_call bank call) calls in
    record { unit = rest.unit ∙ first.unit; rules = rest.rules ∙ first.rules; number = rest.number ∙ first.number; after = rest.after ∙ first.after }

takes_none : (old new : BankRecord) (calls : List Call) → IsSameInverter old new → TakeNone old calls → TakeNone new calls
takes_none old new calls same none = rw (same.unit, same.rules) none

-- several calls that take no write change nothing later
pub nothing_else : (bank : BankRecord) (calls : List Call) (now : ℕ) → TakeNone bank calls → CameBy now calls → bank_at now (state_after_calls bank calls) ≡ bank_at now bank
nothing_else bank [] now none by = refl
nothing_else bank (call ∷ calls) now none by =
    let next = state_after_call bank call in
    nothing_else next calls now (takes_none bank next calls (call_same bank call) none.1) by.1 ∙ idle bank call now none.0 by.0

state_after_calls-append : (bank : BankRecord) (before later : List Call) → state_after_calls bank (before ++ later) ≡ state_after_calls (state_after_calls bank before) later
state_after_calls-append bank [] later = refl
state_after_calls-append bank (call ∷ before) later = state_after_calls-append (state_after_call bank call) before later

came_later : (now : ℕ) (before later : List Call) → CameBy now (before ++ later) → CameBy now later
came_later now [] later by = by
came_later now (call ∷ before) later by = came_later now before later by.1

-- what is held after a write that was taken, by whether its time has passed
held_is : (bank : BankRecord) (write : Call) (later : List Call) (at raw now : ℕ) → state_after_call bank write ≡ with_limit (bank_at at bank) (Some raw) → TakeNone bank later → CameBy now later
    → held_at now (state_after_calls bank (write ∷ later)) ≡ cond (leb (at + bank.after) now) bank.unit.floor raw
held_is bank write later at raw now takes none by =
    let next = state_after_call bank write in
    ap (λ (b : BankRecord). b.raw) (nothing_else next later now (takes_none bank next later (call_same bank write) none) by)
    ∙ ap (held_at now) takes

pub held_since : (bank : BankRecord) (calls : List Call) (at raw now : ℕ) → TookLast bank calls at raw → CameBy now calls
    → held_at now (state_after_calls bank calls) ≡ cond (leb (at + bank.after) now) bank.unit.floor raw
held_since bank calls at raw now took by =
    let before = state_after_calls bank took.before in
    let same = calls_same bank took.before in
    let taken : taken_limit before.unit before.rules took.write ≡ Some raw = rw (same.unit, same.rules) took.taken in
    let came = subst (CameBy now) took.stand by in
    let later = came_later now took.before (Asked at took.write ∷ took.later) came in
    let held = held_is before (Asked at took.write) took.later at raw now (ap (with_limit (bank_at at before)) taken) (takes_none bank before took.later same took.none_later) later.1 in
    ap (λ (cs : List Call). held_at now (state_after_calls bank cs)) took.stand
    ∙ ap (held_at now) (state_after_calls-append bank took.before (Asked at took.write ∷ took.later))
    ∙ rw (same.after, same.unit) at held
