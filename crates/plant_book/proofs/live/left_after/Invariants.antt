use Rattle.std.proofs.Common.{◌≡◌, ◌≤◌, ◌++◌, filter, length, take}
use Rattle.plant_book.specs.Lifetime.{stays_by}
use Rattle.plant_book.specs.Carry.{EachBefore}
use Rattle.plant_book.proofs.live.left_after.Given as goal

abbrev pub invariant-loop-write : goal.invariant-loop-write
invariant-loop-write l = record {
  left : EachBefore l.book (λ before. l.left.items ≡ filter (stays_by l.book.site.rules (before ++ take l.place l.book.entries) l.entry) (take l.write-index l.write-items));
  few : length l.left.items ≤ l.write-index;
}
