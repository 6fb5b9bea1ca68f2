use Rattle.std.proofs.Common.{◌≡◌, List, [], None, sym, subst, ◌∙◌, ap, map, false}
use Rattle.limiter_num.specs.Timers.{reach}
use Rattle.plant_book.specs.Site.{SiteRecord}
use Rattle.plant_book.specs.Part.{PartRecord}
use Rattle.plant_ledger.specs.Account.{Account}
use Rattle.plant_ledger.specs.Account.{claim_by, first_account}
use Rattle.plant_ledger.specs.Ledger.{IsLedgerOf, AreSums}
use Rattle.plant_book.specs.Carry.{mark_of, EachBook}
use Rattle.plant_ledger.proofs.Accounts.{first_of, first_mark}
use Rattle.plant_ledger.specs.Queue.{AreQueued}
use Rattle.plant_ledger.proofs.Standing.{queued_first}
use Rattle.plant_ledger.proofs.Running.{no_level, no_fall_level}
use Rattle.plant_ledger.proofs.ledger.Ledger.new.Goals as goal

pub invariant_of-result : goal.invariant_of-result
invariant_of-result c =
    let first = first_of c.args.site c.args.start c.requires.openable c.requires.start in
    let units : c.deref.result.now ≡ c.args.site.units = c.deref.ensures.value ∙ ap (λ (site : SiteRecord). site.units) c.site.view_is in
    let accounts : c.in_ok-accounts.accounts.items ≡ map first_account c.args.site.units = c.in_ok-accounts.ensures ∙ ap (map first_account) units in
    let cap : c.site.inside.cap ≡ c.args.site.cap = ap (λ (site : SiteRecord). site.cap) c.site.view_is in
    let its : c.deref-3.result.now ≡ c.in_ok-accounts.accounts.items = c.deref-3.ensures.value in
    record {
      numbers = rw cap (subst (λ (book : PartRecord). IsLedgerOf book c.args.start c.in_ok-accounts.accounts.items c.args.site.cap false) (sym c.in_ok-book.ensures)
          (subst (λ (all : List Account). IsLedgerOf (record { site = c.args.site; start = c.args.start; carry = None; entries = [] }) c.args.start all c.args.site.cap false) (sym accounts) first));
      reach_is = c.reach-reach.ensures.moment ∙ ap (λ (site : SiteRecord). reach site.rules) c.site.view_is ∙ sym (ap (λ (book : PartRecord). reach book.site.rules) c.in_ok-book.ensures);
      reach_low = c.reach-reach.ensures.below;
      claims_are = c.in_ok-claims.ensures ∙ ap (map claim_by) c.deref-2.ensures.value;
      sums = subst (λ (all : List Account). AreSums all c.gather-sums.result) its c.gather-sums.ensures.sums;
      queued = rw c.in_ok-expiries.ensures (subst (λ (all : List Account). AreQueued c.in_ok-book.book.site.rules c.args.start [] all) (sym accounts)
          (queued_first c.in_ok-book.book.site.rules c.args.start c.args.site.units));
      level = no_level _ _ _ c.gather-sums.ensures.made c.gather-sums.ensures.probe;
      fall = no_fall_level _ _ _ c.gather-sums.ensures.fall;
      set = subst (λ (book : PartRecord). EachBook book (λ whole. c.gather-sums.result.set ≡ mark_of whole)) (sym c.in_ok-book.ensures) (first_mark c.args.site c.args.start c.gather-sums.result.set c.gather-sums.ensures.set);
    }
