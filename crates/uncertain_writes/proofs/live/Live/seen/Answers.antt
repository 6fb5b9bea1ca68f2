use Rattle.std.proofs.Common.{◌∙◌, not, ap, Some}
use Rattle.plant_book.specs.declared.call.Write as writes
use Rattle.plant_book.specs.Writes.{frees}
use Rattle.uncertain_writes.specs.Live.{most_raw}
use Rattle.uncertain_writes.proofs.Order.{order-filter}
use Rattle.uncertain_writes.proofs.live.Live.seen.Goals as goal

pub invariant_of-self : goal.invariant_of-self
invariant_of-self c = record {
  greatest = c.most_of-self-inside.ensures ∙ ap most_raw c.kept.ensures.writes;
  order = λ rising. order-filter (λ (write : writes.Write). not (frees c.args.rules.now (Some c.args.read.now) c.args.raw write)) c.self.inside.writes c.drop_freed-count.new.self c.drop_freed-count.ensures.left (c.self.invariant.order rising);
}
