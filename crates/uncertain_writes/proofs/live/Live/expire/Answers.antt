use Rattle.std.proofs.Common.{◌∙◌, not, ap}
use Rattle.plant_book.specs.declared.call.Write as writes
use Rattle.uncertain_writes.specs.Live.{is_past, most_raw}
use Rattle.uncertain_writes.proofs.Order.{order-filter}
use Rattle.uncertain_writes.proofs.live.Live.expire.Goals as goal

pub invariant_of-self : goal.invariant_of-self
invariant_of-self c = record {
  greatest = c.most_of-self-inside.ensures ∙ ap most_raw c.kept-2.ensures.writes;
  order = λ rising. order-filter (λ (write : writes.Write). not (is_past c.args.rules.now c.args.now write)) c.self.inside.writes c.drop_past-count.new.self c.drop_past-count.ensures.left (c.self.invariant.order rising);
}
