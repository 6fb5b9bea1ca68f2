use Rattle.std.proofs.Common.{◌≡◌, ℕ, true, sym, ap, refl, ◌∙◌}
use Rattle.plant_book.specs.declared.call.Call.{Call}
use Rattle.plant_book.specs.declared.call.Call.TheVariants as calls
use Rattle.plant_book.specs.declared.call.Reply.{Reply}
use Rattle.plant_book.specs.Sums.{last_that}
use Rattle.plant_book.specs.Caps as rule
use Rattle.plant_book.proofs.Steps.{behind_none, last_that-behind_passes, last_that-behind_fails}
use Rattle.plant_book.proofs.caps.cap_from.Goals as goal
use Rattle.plant_book.proofs.caps.cap_from.Goals.{then-sets_cap, else-sets_cap}

-- a call that sets the cap tells it
cap_by-same : (one other : ℕ) (call : Call) (reply : Reply) → rule.sets_by call reply ≡ true → rule.cap_by one call ≡ rule.cap_by other call
cap_by-same one other (calls.Cap at mw) reply is = refl
cap_by-same one other _ reply is = absurd cc

pub loop-entry-init : goal.loop-entry-init
loop-entry-init c most before from = from ∙ sym (ap (λ es. rule.cap_after most (last_that rule.sets_cap es)) (behind_none before c.args.entries.now))

pub loop-entry-preserved : goal.loop-entry-preserved
loop-entry-preserved c =
    let a = c.args in
    let i = c.loop-entry.entry-index in
    elim c.if-sets_cap.branch [
      | then-sets_cap w ↦ λ most before from.
          w.cap-is ∙ w.cap_by-cap.ensures
          ∙ cap_by-same _ most _ _ (sym c.sets_cap.ensures ∙ w.if-sets_cap.true)
          ∙ sym (ap (rule.cap_after most) (last_that-behind_passes rule.sets_cap before a.entries.now i _ c.loop-entry-test.true (sym c.sets_cap.ensures ∙ w.if-sets_cap.true)))
      | else-sets_cap w ↦ λ most before from.
          w.cap-is ∙ c.loop-entry.invariant most before from
          ∙ sym (ap (rule.cap_after most) (last_that-behind_fails rule.sets_cap before a.entries.now i _ c.loop-entry-test.true (sym c.sets_cap.ensures ∙ w.if-sets_cap.false)))
    ]
