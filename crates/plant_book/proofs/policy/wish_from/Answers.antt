use Rattle.std.proofs.Common.{ℕ, Option, sym, ap, ◌∙◌}
use Rattle.std.specs.Prelude.{is_some, unwrap_or}
use Rattle.plant_book.specs.Sums.{last_that}
use Rattle.plant_book.specs.Policy as rule
use Rattle.plant_book.proofs.Steps.{behind_none, last_that-behind_passes, last_that-behind_fails}
use Rattle.plant_book.proofs.policy.wish_from.Goals as goal
use Rattle.plant_book.proofs.policy.wish_from.Goals.{in-Some, in_default}

pub loop-entry-init : goal.loop-entry-init
loop-entry-init c rated before from = from ∙ sym (ap (λ es. rule.wish_after rated c.args.inverter (last_that (rule.is_want c.args.inverter) es)) (behind_none before c.args.entries.now))

pub loop-entry-preserved : goal.loop-entry-preserved
loop-entry-preserved c =
    let a = c.args in
    let i = c.loop-entry.entry-index in
    elim c.match-wish_by.branch [
      | in-Some w ↦ λ rated before from.
          let found = sym c.wish_by.ensures ∙ w.in-Some.is in
          w.wish-is ∙ sym (ap (λ (o : Option ℕ). unwrap_or o rated) found)
          ∙ sym (ap (rule.wish_after rated a.inverter) (last_that-behind_passes (rule.is_want a.inverter) before a.entries.now i _ c.loop-entry-test.true (ap (is_some {T = ℕ}) found)))
      | in_default w ↦ λ rated before from.
          w.wish-is ∙ c.loop-entry.invariant rated before from
          ∙ sym (ap (rule.wish_after rated a.inverter) (last_that-behind_fails (rule.is_want a.inverter) before a.entries.now i _ c.loop-entry-test.true (ap (is_some {T = ℕ}) (sym c.wish_by.ensures ∙ w.in_default.is))))
    ]
