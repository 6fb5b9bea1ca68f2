use Rattle.std.proofs.Common.{◌≡◌, ◌≤◌, ◌++◌, ◌+◌, ◌∷◌, length, vec_capacity}
use Rattle.plant_run.proofs.forked.hand_in.Given as goal

-- the console's pass and those of the desks so far, and room for the others
abbrev pub invariant-loop-desk : goal.invariant-loop-desk
invariant-loop-desk g l =
    (goal.iterator-loop-desk g).can_next l.desk-iterator ×
    (goal.iterator-loop-desk g).is_finite l.desk-iterator ×
    (l.fn.workers.items ≡ l.yielded ++ l.desk-iterator.rest.items) ×
    (l.passes.items ≡ l.fn.operator ∷ l.yielded) ×
    (length l.fn.workers.items + 1 ≤ vec_capacity l.passes)
