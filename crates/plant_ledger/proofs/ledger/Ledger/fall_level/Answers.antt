use Rattle.std.proofs.Common.{◌≡◌, Option, ℕ, subst, ap, ◌∙◌}
use Rattle.plant_book.specs.Carry.{EachBook}
use Rattle.plant_book.specs.Caps.{cap_of}
use Rattle.plant_book.specs.Policy as rule
use Rattle.share_policy.specs.Shares.{level_of}
use Rattle.plant_ledger.specs.Ledger.{LedgerRecord, IsFallLevel}
use Rattle.plant_ledger.proofs.ledger.Ledger.fall_level.Goals as goal

pub returns-in-Some : goal.returns-in-Some
returns-in-Some c =
    let inside = c.self.inside in
    let kept = subst (λ (level : Option ℕ). IsFallLevel inside.cap inside.book.site level) c.in-Some.is c.self.invariant.fall in
    subst (λ (ledger : LedgerRecord). EachBook ledger.book (λ whole. c.in-Some.level ≡ level_of (cap_of whole) (rule.fall_claims whole.site))) c.self.view_is
    (λ before is. kept ∙ ap (λ (n : ℕ). level_of n (rule.fall_claims inside.book.site)) (c.self.invariant.numbers.each before is).in_force)

pub level-requires : goal.level-requires
level-requires c =
    let life = c.fall_claims.ensures.of_life in
    rw (c.cap.ensures.cap life.before life.behind, c.as_slice.ensures.value, c.fall_claims.ensures.claims) (c.fall_claims.ensures.feasible life.before life.behind)
