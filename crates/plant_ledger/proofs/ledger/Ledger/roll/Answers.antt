use Rattle.std.proofs.Common.{◌≡◌, sym, subst, ap}
use Rattle.limiter_num.specs.Timers.{reach}
use Rattle.plant_book.specs.Site.{SiteRecord}
use Rattle.plant_book.specs.Part.{PartRecord, last_moment_of}
use Rattle.plant_book.specs.Carry.{EachBefore}
use Rattle.plant_ledger.specs.Plant.{Rolls}
use Rattle.plant_ledger.specs.Queue.{AreQueued}
use Rattle.plant_ledger.specs.Ledger.{LedgerRecord, IsLedgerOf, IsFallLevel, Keeps, IsAtLast}
use Rattle.plant_ledger.proofs.Accounts.{rolled_of, rolled_mark}
use Rattle.plant_ledger.proofs.ledger.Ledger.roll.Goals as goal

module _ (c : goal.After-replace) where
  next : EachBefore c.self.inside.book (λ before. Rolls before c.self.inside.book c.in_ok-next.next)
  next = subst (λ (ledger : LedgerRecord). EachBefore ledger.book (λ before. Rolls before ledger.book c.in_ok-next.next)) (sym c.self.view_is) c.in_ok-next.ensures.next

  rolled : IsLedgerOf c.in_ok-next.next c.self.inside.moment c.self.inside.accounts.items c.self.inside.cap c.self.inside.stopped × (c.self.inside.moment ≡ last_moment_of c.in_ok-next.next)
  rolled =
      let inside = c.self.inside in
      let old : IsAtLast (record { book = inside.book; at = inside.moment }) = subst IsAtLast (sym c.self.view_is) c.requires in
      rolled_of inside.book c.in_ok-next.next inside.moment inside.accounts.items inside.cap inside.stopped c.self.invariant.numbers old.last next

pub invariant_of-self : goal.invariant_of-self
invariant_of-self c =
    let inside = c.self.inside in
    let life = c.self.invariant.numbers.of_life in
    let begins = (next c life.before life.behind).begins in
    subst (λ (book : PartRecord). Keeps book inside.moment inside.accounts.items inside.claims.items inside.expiries inside.sums inside.cap inside.stopped inside.reach) (sym c.replace.ensures.after) (record {
      numbers = (rolled c).0;
      reach_is = subst (λ (site : SiteRecord). inside.reach ≡ reach site.rules) (sym (ap (λ (book : PartRecord). book.site) begins)) c.self.invariant.reach_is;
      reach_low = c.self.invariant.reach_low;
      claims_are = c.self.invariant.claims_are;
      sums = c.self.invariant.sums;
      level = c.self.invariant.level;
      fall = subst (λ (site : SiteRecord). IsFallLevel inside.cap site inside.sums.fall) (sym (ap (λ (book : PartRecord). book.site) begins)) c.self.invariant.fall;
      queued = subst (λ (site : SiteRecord). AreQueued site.rules inside.moment inside.expiries inside.accounts.items) (sym (ap (λ (book : PartRecord). book.site) begins)) c.self.invariant.queued;
      set = rolled_mark inside.book c.in_ok-next.next inside.sums.set life (next c) c.self.invariant.set;
    })

pub returns-clause-kept : goal.returns-clause-kept
returns-clause-kept c =
    subst (λ (book : PartRecord). IsAtLast (record { book = book; at = c.self.inside.moment })) (sym c.replace.ensures.after)
    (record { kept = c.in_ok-next.ensures.kept; last = (rolled c).1 })
