use Rattle.std.proofs.Common.{◌≡◌, ◌≤◌, ◌*◌, ◌^◌}
use Rattle.plant_book.specs.Sums.{sum_below}
use Rattle.plant_book.specs.Reserved as sums
use Rattle.plant_book.specs.Part.{book_behind, part_first}
use Rattle.plant_book.specs.Carry.{EachBefore}
use Rattle.plant_book.proofs.reserved.total_among.Given as goal

abbrev pub invariant-loop-inverter : goal.invariant-loop-inverter
invariant-loop-inverter l = record {
  summed : EachBefore l.book (λ before. l.total ≡ sum_below l.inverter (sums.reserved_at (book_behind before (part_first l.book l.count)) l.now));
  below : l.total ≤ l.inverter * (65535 * 10 ^ 12);
}
