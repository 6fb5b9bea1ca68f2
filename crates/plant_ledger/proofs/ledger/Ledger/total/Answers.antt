use Rattle.std.proofs.Common.{◌≡◌, subst, ◌∙◌}
use Rattle.plant_book.specs.Part.{book_behind}
use Rattle.plant_book.specs.Reserved as sums
use Rattle.plant_book.specs.Carry.{EachBook}
use Rattle.plant_ledger.specs.Ledger.{LedgerRecord}
use Rattle.plant_ledger.proofs.Running.{total_is}
use Rattle.plant_ledger.proofs.ledger.Ledger.total.Goals as goal

pub returns : goal.returns
returns c =
    let inside = c.self.inside in
    subst (λ (ledger : LedgerRecord). EachBook ledger.book (λ whole. inside.sums.total ≡ sums.total_at whole ledger.at)) c.self.view_is
    (λ before is. c.self.invariant.sums.total ∙ total_is (book_behind before inside.book) inside.moment inside.accounts.items (c.self.invariant.numbers.each before is).of_inverters)
