use Rattle.std.proofs.Common.{refl, arith}
use Rattle.limiter_num.specs.Timers.{tmin, tmax}
use Rattle.plant_simulator.proofs.laws.numbers_are_those_of_the_site.Goals as goal

pub returns-clause-act : goal.returns-clause-act
returns-clause-act c = λ at. omega arith

pub returns-clause-shortest : goal.returns-clause-shortest
unfolding tmin
returns-clause-shortest c = refl

pub returns-clause-longest : goal.returns-clause-longest
unfolding tmax
returns-clause-longest c = refl
