use Rattle.std.proofs.Common.{◌≡◌, subst}
use Rattle.plant_book.specs.Carry.{mark_of, EachBook}
use Rattle.plant_ledger.specs.Ledger.{LedgerRecord}
use Rattle.plant_ledger.proofs.ledger.Ledger.mark.Goals as goal

pub returns : goal.returns
returns c =
    subst (λ (ledger : LedgerRecord). EachBook ledger.book (λ whole. c.self.inside.sums.set ≡ mark_of whole)) c.self.view_is c.self.invariant.set
