use Rattle.std.proofs.Common.{◌≡◌, ◌≤◌, filter, length, take}
use Rattle.std.specs.Prelude.{nat_le}
use Rattle.limiter_num.specs.Timers.{last_moment}
use Rattle.plant_book.proofs.live.still_on.Given as goal

abbrev pub invariant-loop-write : goal.invariant-loop-write
invariant-loop-write l = record {
  on : l.on.items ≡ filter (λ write. nat_le l.now (last_moment l.rules write.at)) (take l.write-index l.write-items);
  few : length l.on.items ≤ l.write-index;
}
