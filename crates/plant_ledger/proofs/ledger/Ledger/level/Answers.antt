use Rattle.std.proofs.Common.{◌≡◌, subst, ◌∙◌}
use Rattle.plant_book.specs.Carry.{EachBook}
use Rattle.plant_book.specs.Caps.{cap_of}
use Rattle.plant_book.specs.Policy as rule
use Rattle.share_policy.specs.Shares.{level_of}
use Rattle.plant_ledger.specs.Ledger.{LedgerRecord}
use Rattle.plant_ledger.proofs.Running.{kept_feasible, kept_known, kept_level}
use Rattle.plant_ledger.proofs.ledger.Ledger.level.Goals as goal

pub level-requires-clause-feasible : goal.level-requires-clause-feasible
level-requires-clause-feasible c =
    let inside = c.self.inside in
    rw c.deref.ensures.value (kept_feasible inside.book inside.moment inside.accounts.items inside.claims.items inside.cap inside.stopped c.self.invariant.numbers c.self.invariant.claims_are)

pub level-requires-clause-known : goal.level-requires-clause-known
level-requires-clause-known c =
    let inside = c.self.inside in
    let kept = c.self.invariant in
    rw c.deref.ensures.value (kept_known inside.book inside.moment inside.accounts.items inside.claims.items inside.cap inside.stopped kept.numbers kept.claims_are inside.sums.level kept.level)

pub returns : goal.returns
returns c =
    let inside = c.self.inside in
    let kept = c.self.invariant in
    subst (λ (ledger : LedgerRecord). EachBook ledger.book (λ whole. c.level.result ≡ level_of (cap_of whole) (rule.claims whole))) c.self.view_is
    (λ before is. rw c.deref.ensures.value at c.level.ensures ∙ kept_level inside.book inside.moment inside.accounts.items inside.claims.items inside.cap inside.stopped kept.numbers kept.claims_are before is)
