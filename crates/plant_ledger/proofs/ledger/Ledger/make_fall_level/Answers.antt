use Rattle.std.proofs.Common.{◌≡◌, ℕ, sym, subst, ap, ◌∙◌}
use Rattle.plant_book.specs.Carry.{EachBook}
use Rattle.plant_book.specs.Caps.{cap_of}
use Rattle.plant_book.specs.Policy as rule
use Rattle.share_policy.specs.Shares.{level_of}
use Rattle.plant_ledger.specs.Ledger.{LedgerRecord}
use Rattle.plant_ledger.proofs.ledger.Ledger.make_fall_level.Goals as goal

pub invariant_of-self : goal.invariant_of-self
invariant_of-self c =
    let inside = c.self.inside in
    let kept = c.self.invariant in
    let life = kept.numbers.of_life in
    let its = kept.numbers.each life.before life.behind in
    let made = subst (λ (ledger : LedgerRecord). EachBook ledger.book (λ whole. c.fall_level-made.result ≡ level_of (cap_of whole) (rule.fall_claims whole.site))) (sym c.self.view_is) c.fall_level-made.ensures in
    record {
      numbers = kept.numbers;
      reach_is = kept.reach_is;
      reach_low = kept.reach_low;
      claims_are = kept.claims_are;
      sums = record { total = kept.sums.total; each = kept.sums.each; oldest = kept.sums.oldest };
      level = kept.level;
      fall = made life.before life.behind ∙ sym (ap (λ (n : ℕ). level_of n (rule.fall_claims inside.book.site)) its.in_force);
      set = kept.set;
      queued = kept.queued;
    }
