-- A bank holds its limit as the timed device does.
use Rattle.std.proofs.Common.{◌≡◌, ℕ, ◌+◌, ◌≤◌, List, [], ◌∷◌, ◌++◌, Option, Some, refl, sym, ap, subst, arith}
use Rattle.limiter_num.specs.declared.rules.Rules.{Rules}
use Rattle.limiter_num.specs.Rating.{full}
use Rattle.limiter_num.specs.Timers.{tmin, tmax}
use Rattle.plant_book.specs.Site.{floor_raw_at}
use Rattle.plant_book.specs.History.{History, Grant}
use Rattle.plant_book.specs.Behaviour.{Timed}
use Rattle.inverter_sim.specs.Bank.{BankRecord, IsBank, bank_at}
use Rattle.inverter_sim.specs.Replies.{taken_limit, with_limit}
use Rattle.inverter_sim.specs.Following.{HasFollowed, IsInTolerance, MayAct, act_at, limit_write, revert_by}
use Rattle.inverter_sim.proofs.Limits.{limit_is_taken}
use Rattle.inverter_sim.proofs.Doing.{does_pass, does_may}

module _ (bank : BankRecord) (history : History) (inverter : ℕ) (events : List Timed) (does : HasFollowed history inverter bank.last bank.raw bank.revert events) where
  pub bank_passes : floor_raw_at history.life.site inverter ≡ bank.unit.floor → (now : ℕ) → bank.last ≤ now
      → HasFollowed history inverter now (bank_at now bank).raw (bank_at now bank).revert (events ++ revert_by now bank.revert)
  bank_passes floor now le = rw (← floor) (does_pass history inverter bank.last now events le bank.raw bank.revert does)

  module _ (kept : IsBank bank) (its : bank.rules ≡ history.life.site.rules) where
    within : IsInTolerance history.life.site.rules bank.last (bank.last + bank.after)
    within =
        let low : tmin history.life.site.rules ≤ bank.after = subst (λ (r : Rules). tmin r ≤ bank.after) its kept.after_low in
        let high : bank.after ≤ tmax history.life.site.rules = subst (λ (r : Rules). bank.after ≤ tmax r) its kept.after_high in
        record { low = omega (arith, low); high = omega (arith, high); to_come = omega arith }

    pub bank_acts : (grant : Grant) → grant.write.raw ≤ full bank.unit.rating → MayAct history inverter bank.last events grant
        → HasFollowed history inverter bank.last (with_limit bank (taken_limit bank.unit bank.rules (limit_write bank grant.write.raw))).raw
        (with_limit bank (taken_limit bank.unit bank.rules (limit_write bank grant.write.raw))).revert (events ++ act_at bank.last grant ∷ [])
    bank_acts grant small may =
        subst (λ (taken : Option ℕ). HasFollowed history inverter bank.last (with_limit bank taken).raw (with_limit bank taken).revert (events ++ act_at bank.last grant ∷ []))
        (sym (limit_is_taken bank.unit bank.rules grant.write.raw small))
        (does_may history inverter bank.last bank.raw bank.revert events does grant may (bank.last + bank.after) within)
