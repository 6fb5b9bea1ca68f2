use Rattle.std.proofs.Common.{◌≡◌, ◌≤◌, ◌++◌, length, vec_capacity}
use Rattle.plant_run.proofs.forked.desks_of.Given as goal

-- a desk for each pass so far, and room for the others
abbrev pub invariant-loop-pass : goal.invariant-loop-pass
invariant-loop-pass g l =
    (goal.iterator-loop-pass g).can_next l.pass-iterator ×
    (goal.iterator-loop-pass g).is_finite l.pass-iterator ×
    (l.fn.passes.items ≡ l.yielded ++ l.pass-iterator.rest.items) ×
    (l.desks.items ≡ l.yielded) ×
    (length l.fn.passes.items ≤ vec_capacity l.desks)
