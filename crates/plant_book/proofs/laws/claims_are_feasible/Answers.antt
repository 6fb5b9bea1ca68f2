use Rattle.plant_book.proofs.Claims.{claims-feasible, fall_claims-feasible}
use Rattle.plant_book.proofs.laws.claims_are_feasible.Goals as goal

pub returns-clause-claims : goal.returns-clause-claims
returns-clause-claims c = claims-feasible

pub returns-clause-falls : goal.returns-clause-falls
returns-clause-falls c = fall_claims-feasible
