use Rattle.std.proofs.Common.{ap}
use Rattle.plant_book.specs.Part.{PartRecord, first_book}
use Rattle.plant_book.proofs.Behind.{behind_nothing}
use Rattle.restart_silence.proofs.Chain.{begins}
use Rattle.restart_silence.proofs.lives.Lives.begin.Goals as goal

pub returns-clause-chain : goal.returns-clause-chain
returns-clause-chain c =
    let plant = c.in_ok-plant.plant in
    begins (first_book plant) (behind_nothing plant c.in_ok-plant.ensures.kept.of_life (ap (λ (b : PartRecord). b.carry) c.in_ok-plant.ensures.opened)).book
