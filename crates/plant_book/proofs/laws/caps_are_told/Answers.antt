use Rattle.plant_book.specs.Reserved.{now_of}
use Rattle.plant_book.proofs.CapInForce.{cap_within}
use Rattle.plant_book.proofs.Lowered.{tells_cap}
use Rattle.plant_book.proofs.laws.caps_are_told.Goals as goal

pub returns-clause-within : goal.returns-clause-within
returns-clause-within c = λ book kept. let within = cap_within book kept in (within.low, within.high)

pub returns-clause-next : goal.returns-clause-next
unfolding now_of
returns-clause-next c = λ book entry next right. tells_cap book entry right next.later
