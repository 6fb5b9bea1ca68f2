use Rattle.std.proofs.Common.{length, Some, ap, arith}
use Rattle.plant_book.specs.Writes.{frees}
use Rattle.uncertain_writes.proofs.Lists.{without_few}
use Rattle.uncertain_writes.proofs.places.Places.left_by.Goals as goal

pub invariant_of-result : goal.invariant_of-result
invariant_of-result c = record {
  within = omega arith;
  few = omega (arith, ap length c.left_by.ensures, without_few (frees c.args.rules.now (Some c.args.read.now) c.args.raw) c.kept.result.now (omega (arith, ap length c.kept.ensures.writes, c.kept.ensures.few)));
}
