use Rattle.std.proofs.Common.{ap}
use Rattle.plant_book.specs.Site.{inverters}
use Rattle.plant_book.specs.Part.{PartRecord}
use Rattle.site_run.proofs.Seats.{each_of_site, differ}
use Rattle.running_tests.proofs.twelve.worked.Goals as goal

pub run_plain-requires-clause-site : goal.run_plain-requires-clause-site
run_plain-requires-clause-site c =
    each_of_site c.args.file 1000 (inverters c.args.file.site) c.in-Ok.opening.plant.site c.in-Ok.opening.workers.items
    (ap (λ (p : PartRecord). p.site) c.in-Ok.ensures.empty) c.in-Ok.ensures.seated

pub run_plain-requires-clause-differ : goal.run_plain-requires-clause-differ
run_plain-requires-clause-differ c =
    differ c.args.file 1000 (inverters c.args.file.site) c.in-Ok.opening.workers.items c.in-Ok.ensures.seated
