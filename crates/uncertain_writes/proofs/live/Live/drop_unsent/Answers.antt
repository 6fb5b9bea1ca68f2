use Rattle.std.proofs.Common.{◌∙◌, not, ap}
use Rattle.plant_book.specs.declared.call.Write as writes
use Rattle.uncertain_writes.specs.Live.{has_numbers, most_raw}
use Rattle.uncertain_writes.proofs.Order.{order-filter}
use Rattle.uncertain_writes.proofs.live.Live.drop_unsent.Goals as goal

pub invariant_of-self : goal.invariant_of-self
invariant_of-self c = record {
  greatest = c.most_of-self-inside.ensures ∙ ap most_raw c.kept.ensures.writes;
  order = λ rising. order-filter (λ (write : writes.Write). not (has_numbers c.args.link c.args.number write)) c.self.inside.writes c.drop_numbered-held.new.self c.drop_numbered-held.ensures.left (c.self.invariant.order rising);
}
