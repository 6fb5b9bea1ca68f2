use Rattle.std.proofs.Common.{◌≡◌, List, ◌∷◌, sym, subst, ◌≤◌, ◌∙◌, arith}
use Rattle.std.specs.List.{All}
use Rattle.revert_timers.specs.declared.expiries.Due.{Due}
use Rattle.plant_ledger.specs.Queue.{HavePlaces}
use Rattle.plant_ledger.proofs.Queued.{expired_same, places_next, front_past, behind_front}
use Rattle.revert_timers.proofs.Lists.{all_stay}
use Rattle.plant_ledger.proofs.queue.expire_due.Goals as goal

pub loop-due-preserved : goal.loop-due-preserved
loop-due-preserved c =
    let rules = c.args.rules.now in
    let now = c.args.now in
    let old = c.loop-due.invariant in
    let due = c.in-Some.due in
    let rest = c.pop_past.new.self in
    let accounts = c.loop-due.accounts in
    let others = c.expire_at.new.accounts in
    let its = c.expire_at.ensures in
    let queue : c.loop-due.expiries ≡ due ∷ rest = c.in-Some.ensures.left in
    let past = front_past now due rest c.loop-due.expiries queue c.in-Some.ensures.popped in
    let queued = subst (λ (q : List Due). HavePlaces rules q accounts) queue old.queued in
    record {
      same = expired_same rules now c.from.result accounts others its.none its.account ∙ old.same;
      count = omega (arith, old.count, c.expire_at.auto.accounts);
      sums = its.sums;
      queued = places_next rules now c.from.result accounts others (omega (arith, c.expire_at.auto.accounts)) its.none its.account due rest (sym c.from.ensures) past queued;
      left = behind_front now due rest c.loop-due.expiries queue past ∙ old.left;
      level = its.level ∙ old.level;
      fall = its.fall ∙ old.fall;
      set = its.set ∙ old.set;
    }

pub returns-clause-left : goal.returns-clause-left
returns-clause-left c =
    let queue = c.loop-due.expiries in
    let same : queue ≡ c.pop_past.new.self = c.in_default.ensures.left in
    let current = subst (λ (q : List Due). All (λ due. c.args.now ≤ due.last) q) (sym same) (c.pop_past.ensures.all c.in_default.is) in
    sym same ∙ sym (all_stay c.args.now queue current) ∙ c.loop-due.invariant.left
