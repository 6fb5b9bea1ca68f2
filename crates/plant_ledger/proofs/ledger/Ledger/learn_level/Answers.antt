use Rattle.plant_ledger.proofs.Running.{kept_feasible, kept_known, known_kept}
use Rattle.plant_ledger.proofs.ledger.Ledger.learn_level.Goals as goal

pub learn-requires-clause-feasible : goal.learn-requires-clause-feasible
learn-requires-clause-feasible c =
    let inside = c.self.inside in
    rw c.deref.ensures.value (kept_feasible inside.book inside.moment inside.accounts.items inside.claims.items inside.cap inside.stopped c.self.invariant.numbers c.self.invariant.claims_are)

pub learn-requires-clause-known : goal.learn-requires-clause-known
learn-requires-clause-known c =
    let inside = c.self.inside in
    let kept = c.self.invariant in
    rw c.deref.ensures.value (kept_known inside.book inside.moment inside.accounts.items inside.claims.items inside.cap inside.stopped kept.numbers kept.claims_are inside.sums.level kept.level)

pub invariant_of-self : goal.invariant_of-self
invariant_of-self c =
    let inside = c.self.inside in
    let kept = c.self.invariant in
    record {
      numbers = kept.numbers;
      reach_is = kept.reach_is;
      reach_low = kept.reach_low;
      claims_are = kept.claims_are;
      sums = record { total = kept.sums.total; each = kept.sums.each; oldest = kept.sums.oldest };
      level = known_kept inside.book inside.moment inside.accounts.items inside.claims.items inside.cap inside.stopped kept.numbers kept.claims_are c.learn.new.self (rw c.deref.ensures.value at c.learn.ensures);
      fall = kept.fall;
      set = kept.set;
      queued = kept.queued;
    }
