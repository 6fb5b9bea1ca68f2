use Rattle.std.proofs.Common.{ap, ◌∙◌}
use Rattle.plant_book.specs.Part.{PartRecord, last_moment_of}
use Rattle.plant_book.proofs.Behind.{last_moment_of-is}
use Rattle.plant_ledger.proofs.plant.Plant.latest.Goals as goal

pub returns-clause-of_life : goal.returns-clause-of_life
returns-clause-of_life c before is =
    c.now.ensures.now ∙ c.self.invariant.last ∙ ap (λ (book : PartRecord). last_moment_of book) c.self.view_is ∙ last_moment_of-is c.args.self.now before is
