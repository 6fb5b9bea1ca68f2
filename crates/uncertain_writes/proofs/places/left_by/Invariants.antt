use Rattle.std.proofs.Common.{◌≡◌, ◌≤◌, Some, length, take}
use Rattle.plant_book.specs.Writes.{frees}
use Rattle.uncertain_writes.specs.Live.{without}
use Rattle.uncertain_writes.proofs.places.left_by.Given as goal

abbrev pub invariant-loop-write : goal.invariant-loop-write
invariant-loop-write l = record {
  left : l.left.items ≡ without (frees l.rules (Some l.read) l.raw) (take l.write-index l.writes);
  few : length l.left.items ≤ l.write-index;
}
