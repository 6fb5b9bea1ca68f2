use Rattle.std.proofs.Common.{◌≡◌, length}
use Rattle.plant_book.specs.Reserved.{reserved}
use Rattle.plant_book.specs.Part.{first_book}
use Rattle.busbars.specs.Sums.{AreSums}
use Rattle.busbars.proofs.sums.reserved_below.Given as goal

abbrev pub invariant-loop-inverter : goal.invariant-loop-inverter
invariant-loop-inverter l = record {
  are : AreSums l.inverter (reserved (first_book l.plant)) l.sums;
  room : length l.sums ≡ 65;
}
