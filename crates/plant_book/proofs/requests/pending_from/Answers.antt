use Rattle.std.proofs.Common.{sym, ap, ◌∙◌}
use Rattle.plant_book.specs.Requests as counted
use Rattle.plant_book.proofs.Steps.{behind_none, last_that-behind_passes, last_that-behind_fails}
use Rattle.plant_book.proofs.requests.pending_from.Goals as goal
use Rattle.plant_book.proofs.requests.pending_from.Goals.{then-changes_pending, else-changes_pending}

pub loop-entry-init : goal.loop-entry-init
loop-entry-init c before from = from ∙ sym (ap (counted.pending_read c.args.inverter) (behind_none before c.args.entries.now))

pub loop-entry-preserved : goal.loop-entry-preserved
unfolding counted.pending_read
loop-entry-preserved c =
    let a = c.args in
    let i = c.loop-entry.entry-index in
    elim c.if-changes_pending.branch [
      | then-changes_pending w ↦ λ before from.
          w.pending-is ∙ w.read_of-pending.ensures
          ∙ sym (ap counted.pending_after (last_that-behind_passes (counted.changes_pending a.inverter) before a.entries.now i _ c.loop-entry-test.true (sym c.changes_pending.ensures ∙ w.if-changes_pending.true)))
      | else-changes_pending w ↦ λ before from.
          w.pending-is ∙ c.loop-entry.invariant before from
          ∙ sym (ap counted.pending_after (last_that-behind_fails (counted.changes_pending a.inverter) before a.entries.now i _ c.loop-entry-test.true (sym c.changes_pending.ensures ∙ w.if-changes_pending.false)))
    ]
