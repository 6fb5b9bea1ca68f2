use Rattle.std.proofs.Common.{◌∙◌, not, ap, Some}
use Rattle.plant_book.specs.declared.call.Write as writes
use Rattle.plant_book.specs.Writes.{frees}
use Rattle.uncertain_writes.specs.Live.{most_raw}
use Rattle.uncertain_writes.proofs.Order.{order-filter}
use Rattle.uncertain_writes.proofs.live.Live.left_by.Goals as goal

pub invariant_of-result : goal.invariant_of-result
invariant_of-result c = record {
  greatest = c.most_of.ensures ∙ ap most_raw c.kept.ensures.writes;
  order = λ rising. order-filter (λ (write : writes.Write). not (frees c.args.rules.now (Some c.args.read.now) c.args.raw write)) c.self.inside.writes c.left_by-writes.result c.left_by-writes.ensures (c.self.invariant.order rising);
}
