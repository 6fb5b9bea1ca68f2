use Rattle.std.proofs.Common.{◌≡◌, ℕ, ◌≤◌, [], None, refl, sym, ap, subst, ◌∙◌, arith}
use Rattle.plant_book.specs.Site.{SiteRecord}
use Rattle.plant_book.specs.Reserved.{now_of}
use Rattle.plant_book.specs.Part.{PartRecord, first_book, last_moment_of}
use Rattle.plant_book.specs.History.{IsPast}
use Rattle.plant_book.proofs.Growth.{empty_book, IsBook-empty}
use Rattle.plant_book.proofs.Behind.{behind_nothing, last_moment_of-is}
use Rattle.plant_ledger.specs.Plant.{IsKept}
use Rattle.restart_silence.specs.Chain.{Restarts, still_live}
use Rattle.restart_silence.proofs.Chain.{restarts, still_live_past}
use Rattle.restart_silence.proofs.lives.Lives.restart.Goals as goal

empty_part : SiteRecord → ℕ → PartRecord
empty_part site start = record { site = site; start = start; carry = None; entries = [] }

pub returns-clause-chain : goal.returns-clause-chain
unfolding empty_part
returns-clause-chain c =
    let old = c.args.self.now in
    let at = c.args.at in
    let kept = subst IsKept c.self.view_is c.latest-last.ensures.kept in
    let none = subst (λ (b : PartRecord). b.carry ≡ None) c.self.view_is c.self.invariant in
    let behind = behind_nothing old kept.of_life none in
    let later : now_of (first_book old) ≤ at = omega (arith, c.if-at-last.false, c.latest-last.ensures.moment, ap last_moment_of c.self.view_is, last_moment_of-is old [] behind) in
    let begun : c.replace.new.dest ≡ empty_part old.site at =
    c.replace.ensures.after ∙ c.in-Some.ensures ∙ ap (λ (s : SiteRecord). empty_part s at) (c.site.ensures ∙ ap (λ (b : PartRecord). b.site) c.self.view_is) in
    subst (λ (b : PartRecord). Restarts (first_book old) (first_book b)) (sym begun) (restarts (first_book old) (empty_book old.site at) (IsBook-empty old.site at behind.book.openable c.requires.moment) refl later)

pub returns-clause-past : goal.returns-clause-past
unfolding empty_part
returns-clause-past c =
    let old = c.args.self.now in
    let at = c.args.at in
    let kept = subst IsKept c.self.view_is c.latest-last.ensures.kept in
    let none = subst (λ (b : PartRecord). b.carry ≡ None) c.self.view_is c.self.invariant in
    let behind = behind_nothing old kept.of_life none in
    let later : now_of (first_book old) ≤ at = omega (arith, c.if-at-last.false, c.latest-last.ensures.moment, ap last_moment_of c.self.view_is, last_moment_of-is old [] behind) in
    let begun : c.replace.new.dest ≡ empty_part old.site at =
    c.replace.ensures.after ∙ c.in-Some.ensures ∙ ap (λ (s : SiteRecord). empty_part s at) (c.site.ensures ∙ ap (λ (b : PartRecord). b.site) c.self.view_is) in
    subst (λ (b : PartRecord). IsPast b.site b.start (still_live (first_book old))) (sym begun) (still_live_past (first_book old) behind.book at later)
