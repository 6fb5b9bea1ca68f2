use Rattle.std.proofs.Common.{sym, ap, ◌∙◌}
use Rattle.plant_book.specs.Policy as rule
use Rattle.plant_book.proofs.Steps.{behind_none, last_that-behind_passes, last_that-behind_fails}
use Rattle.plant_book.proofs.policy.strange_from.Goals as goal
use Rattle.plant_book.proofs.policy.strange_from.Goals.{then-is_sight, else-is_sight}

pub loop-entry-init : goal.loop-entry-init
loop-entry-init c before from = from ∙ sym (ap (rule.is_strange c.args.inverter) (behind_none before c.args.entries.now))

pub loop-entry-preserved : goal.loop-entry-preserved
unfolding rule.is_strange
loop-entry-preserved c =
    let a = c.args in
    let i = c.loop-entry.entry-index in
    elim c.if-is_sight.branch [
      | then-is_sight w ↦ λ before from.
          w.strange-is ∙ w.tells_strange-strange.ensures
          ∙ sym (ap rule.strange_after (last_that-behind_passes (rule.is_sight a.inverter) before a.entries.now i _ c.loop-entry-test.true (sym c.is_sight.ensures ∙ w.if-is_sight.true)))
      | else-is_sight w ↦ λ before from.
          w.strange-is ∙ c.loop-entry.invariant before from
          ∙ sym (ap rule.strange_after (last_that-behind_fails (rule.is_sight a.inverter) before a.entries.now i _ c.loop-entry-test.true (sym c.is_sight.ensures ∙ w.if-is_sight.false)))
    ]
