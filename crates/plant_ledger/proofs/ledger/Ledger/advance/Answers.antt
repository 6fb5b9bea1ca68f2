use Rattle.std.proofs.Common.{◌≡◌, ◌⊎◌, ◌+◌, ◌≤◌, ℕ, Option, List, map, length, sym, subst, ap, ◌∙◌, arith, inl, inr}
use Rattle.limiter_num.specs.Timers.{reach}
use Rattle.limiter_num.specs.declared.rules.Rules.{Rules}
use Rattle.share_policy.specs.declared.claim.Claim.{Claim}
use Rattle.std.proofs.lemmas.Bool.{cases_lt}
use Rattle.plant_ledger.specs.Account.{Account, claim_by}
use Rattle.plant_ledger.specs.Ledger.{LedgerRecord, IsFallLevel, Keeps, account_at}
use Rattle.plant_ledger.specs.Queue.{HavePlaces}
use Rattle.plant_ledger.specs.Known.{IsKnown}
use Rattle.plant_ledger.specs.declared.known.Known.{Known}
use Rattle.plant_book.specs.declared.carry.CapMark.{CapMark}
use Rattle.plant_book.specs.Carry.{mark_of, EachBook}
use Rattle.plant_ledger.proofs.Accounts.{whole, later_of}
use Rattle.plant_ledger.proofs.Queued.{queued_from}
use Rattle.plant_ledger.proofs.Standing.{have_places, queued_same, queued_later}
use Rattle.plant_ledger.proofs.Running.{same_accounts_at, later_claims}
use Rattle.plant_ledger.proofs.ledger.Ledger.advance.Goals as goal

pub invariant_of-self : goal.invariant_of-self
invariant_of-self c =
    let inside = c.self.inside in
    let rules = inside.book.site.rules in
    let kept = c.self.invariant in
    let le : inside.moment ≤ c.args.now = omega (arith, c.requires.later, ap (λ (l : LedgerRecord). l.at) c.self.view_is) in
    let reaches : inside.reach ≡ reach rules = kept.reach_is in
    let none : c.args.now ≤ inside.sums.oldest + reach rules = omega (arith, c.if-now-saturating_add.true, c.saturating_add.ensures, reaches) in
    let same = same_accounts_at rules c.args.now inside.sums.oldest inside.accounts.items none kept.sums.oldest in
    record {
      numbers = later_of inside.book inside.moment c.args.now inside.accounts.items inside.accounts.items inside.cap inside.stopped le c.requires.high (sym same) kept.numbers;
      reach_is = kept.reach_is;
      reach_low = kept.reach_low;
      claims_are = kept.claims_are;
      sums = kept.sums;
      level = kept.level;
      fall = kept.fall;
      set = kept.set;
      queued = queued_same rules inside.moment c.args.now inside.expiries inside.accounts.items le kept.queued;
    }

pub invariant_of-self-2 : goal.invariant_of-self-2
invariant_of-self-2 c =
    let inside = c.self.inside in
    let rules = inside.book.site.rules in
    let kept = c.self.invariant in
    let now = c.args.now in
    let old = inside.accounts.items in
    let fresh = c.expire_due.new.accounts in
    let queue = c.expire_due.new.expiries in
    let sums = c.expire_due.new.sums in
    let its = c.expire_due.ensures in
    let oldest = c.saturating_sub-self-inside.result in
    let same_rules : c.rules-rules.result ≡ rules = c.rules-rules.ensures ∙ ap (λ (l : LedgerRecord). l.book.site.rules) (sym c.self.view_is) in
    let le : inside.moment ≤ now = omega (arith, c.requires.later, ap (λ (l : LedgerRecord). l.at) c.self.view_is) in
    let reaches : inside.reach ≡ reach rules = kept.reach_is in
    let count : length fresh ≡ inside.accounts.len = omega (arith, c.expire_due.auto.accounts, c.deref_mut.ensures.len) in
    let places : HavePlaces rules queue fresh = subst (λ (r : Rules). HavePlaces r queue fresh) same_rules its.queued in
    let bound : oldest + reach rules ≤ now ⊎ (oldest ≡ 0) = elim (cases_lt now (reach rules)) [
      | inl lt ↦ inr (omega (arith, lt, reaches, c.saturating_sub-self-inside.ensures))
      | inr le ↦ inl (omega (arith, le, reaches, c.saturating_sub-self-inside.ensures))
    ] in
    let from = queued_from rules now oldest queue fresh places its.none_due bound in
    let at_once = same_accounts_at rules now oldest fresh (omega (arith, c.saturating_sub-self-inside.ensures, reaches)) from in
    let is : fresh ≡ map (account_at rules now) old =
    sym at_once ∙ subst (λ (r : Rules). map (account_at r now) fresh ≡ map (account_at r now) c.deref_mut.result.now) same_rules its.same ∙ ap (map (account_at rules now)) c.deref_mut.ensures.value in
    let claims : map claim_by fresh ≡ map claim_by old = ap (map claim_by) is ∙ later_claims rules now old in
    let level = subst (λ (list : List Claim). IsKnown inside.cap list inside.sums.level) (sym claims) kept.level in
    let all : Keeps inside.book now fresh inside.claims.items queue (record { total = sums.total; oldest = oldest; level = sums.level; fall = sums.fall; set = sums.set }) inside.cap inside.stopped inside.reach =
    record {
      numbers = later_of inside.book inside.moment now old fresh inside.cap inside.stopped le c.requires.high is kept.numbers;
      reach_is = kept.reach_is;
      reach_low = kept.reach_low;
      claims_are = kept.claims_are ∙ sym claims;
      sums = record { total = its.sums.total; each = its.sums.each; oldest = from };
      level = subst (λ (known : Known). IsKnown inside.cap (map claim_by fresh) known) (sym its.level) level;
      fall = subst (λ (made : Option ℕ). IsFallLevel inside.cap inside.book.site made) (sym its.fall) kept.fall;
      set = subst (λ (mark : Option CapMark). EachBook inside.book (λ whole. mark ≡ mark_of whole)) (sym its.set) kept.set;
      queued = rw (its.left, is) (queued_later rules inside.moment now inside.expiries old le kept.queued);
    } in
    rw (whole fresh old inside.accounts.len count) all

pub expire_due-requires-clause-queued : goal.expire_due-requires-clause-queued
expire_due-requires-clause-queued c =
    let inside = c.self.inside in
    let places = have_places inside.book.site.rules inside.moment inside.expiries inside.accounts.items c.self.invariant.queued in
    subst (λ (all : List Account). HavePlaces c.rules-rules.result inside.expiries all) (sym c.deref_mut.ensures.value)
    (subst (λ (r : Rules). HavePlaces r inside.expiries inside.accounts.items) (ap (λ (l : LedgerRecord). l.book.site.rules) c.self.view_is ∙ sym c.rules-rules.ensures) places)
