use Rattle.std.proofs.Common.{◌≡◌, ◌≤◌, ◌*◌, ◌^◌, max, take, map}
use Rattle.std.specs.Prelude.{fold}
use Rattle.limiter_num.specs.Rating.{mw}
use Rattle.plant_book.proofs.reserved.greatest.Given as goal

abbrev pub invariant-loop-write : goal.invariant-loop-write
invariant-loop-write l = record {
  watts : l.most ≡ fold max (mw l.unit.rating l.unit.floor) (map (λ write. mw l.unit.rating write.raw) (take l.write-index l.writes));
  below : l.most ≤ 65535 * 10 ^ 12;
}
