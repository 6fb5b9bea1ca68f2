use Rattle.std.proofs.Common.{◌≡◌, Some, subst}
use Rattle.std.specs.Prelude.{slice_get}
use Rattle.plant_book.specs.Site.{SiteRecord}
use Rattle.plant_ledger.proofs.Accounts.{numbers_of}
use Rattle.plant_ledger.proofs.ledger.Ledger.unit.Goals as goal

pub returns-clause-numbers : goal.returns-clause-numbers
returns-clause-numbers c =
    numbers_of c.args.self.now.book.site c.args.inverter c.unit_of.result.now
    (subst (λ (site : SiteRecord). slice_get site.units c.args.inverter ≡ Some c.unit_of.result.now) c.site.ensures.site c.unit_of.ensures)
