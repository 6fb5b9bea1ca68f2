use Rattle.std.proofs.Common.{arith}
use Rattle.plant_ledger.proofs.ledger.Ledger.site.Goals as goal

pub returns-clause-few : goal.returns-clause-few
returns-clause-few c = omega (arith, c.book-book.ensures.kept.behind.book.openable.few)
