use Rattle.std.proofs.Common.{arith, length-drop, ap, length}
use Rattle.std.proofs.lemmas.List.Sorted.{IsNonDecreasingBy-drop}
use Rattle.revert_timers.proofs.Lists.{later_than_first}
use Rattle.revert_timers.proofs.expiries.Expiries.pop_past.Goals as goal

pub returns-then-branch-now-clause-all : goal.returns-then-branch-now-clause-all
returns-then-branch-now-clause-all c = λ none.
    rw (← c.self.view_is)
    (later_than_first c.args.now c.in_ok-front.field-0.now _ c.self.invariant.rising c.in_ok-front.ensures.lookup c.if-branch-now.true)

pub invariant_of-self : goal.invariant_of-self
invariant_of-self c = record {
  rising = rw c.pop_front.ensures.rest (IsNonDecreasingBy-drop (λ due. due.last) 1 _ c.self.invariant.rising);
  few = omega (arith, c.self.invariant.few, ap length c.pop_front.ensures.rest, length-drop 1 c.self.inside.entries.items);
  memory = omega (arith, c.self.invariant.memory, c.pop_front.ensures.capacity);
}

pub returns-clause-rising : goal.returns-clause-rising
returns-clause-rising c = rw c.pop_front.ensures.rest (IsNonDecreasingBy-drop
    (λ due. due.last) 1 _ c.self.invariant.rising)
