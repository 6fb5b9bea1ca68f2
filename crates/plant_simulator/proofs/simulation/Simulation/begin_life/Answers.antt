use Rattle.std.proofs.Common.{◌≤◌, sym, subst, inl, inr, arith}
use Rattle.plant_book.specs.Reserved.{now_of}
use Rattle.plant_simulator.specs.World.{World}
use Rattle.plant_simulator.proofs.Entering.{last_is}
use Rattle.plant_simulator.proofs.simulation.Simulation.begin_life.Goals as goal

pub unreachable-requires : goal.unreachable-requires
unreachable-requires c =
    let time = subst (λ (w : World). now_of w.book ≤ w.moment) (sym c.self.view_is) c.requires.time in
    elim c.in-Err-TimeBack.ensures.time_back [
      | inl early ↦ omega (arith, early.0, last_is c.self.inside.lives c.self.invariant, time)
      | inr none ↦ let never = none.1 in let is = c.in-Err-TimeBack.field-0-is in cc
    ]
