use Rattle.std.proofs.Common.{◌≡◌, ◌≤◌, not, filter, length, take}
use Rattle.plant_book.specs.Writes.{frees}
use Rattle.plant_book.proofs.live.left_by.Given as goal

abbrev pub invariant-loop-write : goal.invariant-loop-write
invariant-loop-write l = record {
  left : l.left.items ≡ filter (λ write. not (frees l.rules l.pending l.raw write)) (take l.write-index l.write-items);
  few : length l.left.items ≤ l.write-index;
}
