use Rattle.std.proofs.Common.{◌≡◌, ◌≤◌, Some, length, take}
use Rattle.std.specs.Prelude.{filter}
use Rattle.plant_book.specs.Writes.{frees}
use Rattle.uncertain_writes.proofs.live.freed_by.Given as goal

abbrev pub invariant-loop-kept : goal.invariant-loop-kept
invariant-loop-kept l = record {
  found : l.found.items ≡ filter (frees l.rules (Some l.read) l.raw) (take l.kept-index l.writes);
  few : length l.found.items ≤ l.kept-index;
}
