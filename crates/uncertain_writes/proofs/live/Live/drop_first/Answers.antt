use Rattle.std.proofs.Common.{◌≡◌, List, ◌<◌, length, get_or, sym, ap, ◌∙◌, arith}
use Rattle.plant_book.specs.declared.call.Write as writes
use Rattle.uncertain_writes.specs.Live.{most_raw}
use Rattle.uncertain_writes.proofs.Order.{most_raw-drop, order-drop}
use Rattle.uncertain_writes.proofs.live.Live.drop_first.Goals as goal

pub invariant_of-self-else-raw-self : goal.invariant_of-self-else-raw-self
invariant_of-self-else-raw-self c =
    let its = c.self.inside.writes in
    let first = c.index-kept-0.result in
    let some : 0 < length its = omega (arith, c.requires, ap length c.self.view_is) in
    let is : first ≡ get_or its 0 first = c.index-kept-0.is ∙ ap (λ (list : List writes.Write). get_or list 0 first) c.kept-kept.ensures.writes in
    record {
      greatest = most_raw-drop its first c.self.inside.most c.raw-raw.result some is c.raw-raw.ensures c.self.invariant.greatest c.if-raw-self.false ∙ ap most_raw (sym c.drop_first.ensures);
      order = λ rising. order-drop its c.drop_first.new.self c.drop_first.ensures (c.self.invariant.order rising);
    }
