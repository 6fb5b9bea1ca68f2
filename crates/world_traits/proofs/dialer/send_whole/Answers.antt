use Rattle.std.proofs.Common.{◌∙◌}
use Rattle.world_traits.proofs.Links.{front_more}
use Rattle.world_traits.proofs.dialer.send_whole.Goals as goal

pub loop-rest-preserved : goal.loop-rest-preserved
loop-rest-preserved g c = record {
  kept = c.in_ok-count.ensures.cause.kept ∙ c.loop-rest.invariant.kept;
  front = front_more (g.N.Dialer.links c.args.dialer.now) (g.N.Dialer.links c.loop-rest.dialer) (g.N.Dialer.links c.send.new.self) c.args.bytes.now c.loop-rest.rest.now
      c.loop-rest.invariant.front.0 c.in_ok-count.count c.loop-rest.invariant.front.1 c.loop-rest.invariant.front.2 c.loop-rest.invariant.front.3
      c.in_ok-count.ensures.bound c.in_ok-count.ensures.links;
}
