use Rattle.std.proofs.Common.{◌≡◌, ℕ, ◌<◌, get_or, Some, sym, subst, ap, ◌∙◌, arith}
use Rattle.std.specs.Prelude.{slice_get}
use Rattle.plant_book.specs.declared.carry.TheConstants.{CALLS_MAX}
use Rattle.plant_book.specs.Site.{inverters}
use Rattle.plant_book.specs.Part.{calls_of, book_behind}
use Rattle.plant_book.specs.Carry.{EachBook}
use Rattle.plant_book.proofs.Behind.{calls_of-is}
use Rattle.plant_ledger.specs.Account.{Account}
use Rattle.plant_ledger.specs.Account.{IsAccount}
use Rattle.plant_ledger.specs.Ledger.{LedgerRecord}
use Rattle.plant_ledger.proofs.Accounts.{few_links}
use Rattle.plant_ledger.proofs.ledger.Ledger.account.Goals as goal

module _ (c : goal.After-index) where
  within : c.args.inverter < inverters c.self.inside.book.site
  within = subst (λ (ledger : LedgerRecord). c.args.inverter < inverters ledger.book.site) (sym c.self.view_is) c.requires

  its : EachBook c.self.inside.book (λ whole. IsAccount whole c.self.inside.moment c.args.inverter c.index.result.now)
  its before is =
      subst (λ (account : Account). IsAccount (book_behind before c.self.inside.book) c.self.inside.moment c.args.inverter account)
      (sym (c.index.ensures ∙ ap (λ (i : ℕ). get_or c.self.inside.accounts.items i c.index.result.now) c.from.ensures))
      ((c.self.invariant.numbers.each before is).of_inverters.each c.args.inverter c.index.result.now within)

pub returns-clause-account : goal.returns-clause-account
returns-clause-account c = subst (λ (ledger : LedgerRecord). EachBook ledger.book (λ whole. IsAccount whole ledger.at c.args.inverter c.index.result.now)) c.self.view_is (its c)

pub returns-clause-unit : goal.returns-clause-unit
returns-clause-unit c =
    let life = c.self.invariant.numbers.of_life in
    subst (λ (ledger : LedgerRecord). slice_get ledger.book.site.units c.args.inverter ≡ Some c.index.result.now.unit) c.self.view_is (its c life.before life.behind).unit

pub returns-clause-links : goal.returns-clause-links
returns-clause-links c = λ few.
    let part = c.self.inside.book in
    let before = c.self.invariant.numbers.of_life.before in
    let behind = c.self.invariant.numbers.of_life.behind in
    let fewer : calls_of part < CALLS_MAX = subst (λ (ledger : LedgerRecord). calls_of ledger.book < CALLS_MAX) (sym c.self.view_is) few in
    few_links (book_behind before part) c.self.inside.moment c.args.inverter c.index.result.now (omega (arith, fewer, calls_of-is part before behind)) (its c before behind)
