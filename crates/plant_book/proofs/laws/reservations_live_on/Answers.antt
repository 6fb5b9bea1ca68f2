use Rattle.plant_book.specs.Reserved.{now_of}
use Rattle.plant_book.proofs.Lifetime.{lives_on, changes_nothing}
use Rattle.plant_book.proofs.laws.reservations_live_on.Goals as goal

pub returns-clause-lifetime : goal.returns-clause-lifetime
unfolding now_of
returns-clause-lifetime c = λ book entry next right. lives_on book entry right next.later

pub returns-clause-refused : goal.returns-clause-refused
unfolding now_of
returns-clause-refused c = λ book entry next right. changes_nothing book entry right next.later
