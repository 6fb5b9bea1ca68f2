use Rattle.std.proofs.Common.{◌≡◌, ◌≤◌, ◌*◌, ◌^◌, take}
use Rattle.std.specs.Prelude.{sum_by}
use Rattle.limiter_num.specs.Rating.{mw}
use Rattle.plant_book.proofs.site.floors.Given as goal

abbrev pub invariant-loop-unit : goal.invariant-loop-unit
invariant-loop-unit l = record {
  summed : l.total ≡ sum_by (λ unit. mw unit.rating unit.floor) (take l.unit-index l.units);
  below : l.total ≤ l.unit-index * (65535 * 10 ^ 12);
}
