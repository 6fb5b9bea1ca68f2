use Rattle.std.proofs.Common.{[], take}
use Rattle.busbars.specs.Buses.{EachFits}
use Rattle.busbars.proofs.fault.first_fault.Given as goal

abbrev pub invariant-loop-place : goal.invariant-loop-place
invariant-loop-place l = EachFits l.plant.site [] (take l.place l.buses)
