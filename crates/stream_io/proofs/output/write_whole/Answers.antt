use Rattle.std.proofs.Common.{◌∙◌}
use Rattle.stream_io.proofs.Writing.{front_more}
use Rattle.stream_io.proofs.output.write_whole.Goals as goal

pub loop-rest-preserved : goal.loop-rest-preserved
loop-rest-preserved g c = record {
  kept = c.in_ok-count.ensures.cause.kept ∙ c.loop-rest.invariant.kept;
  stops = λ none. c.in_ok-count.ensures.late.in_time (c.loop-rest.invariant.kept ∙ none) ∙ c.loop-rest.invariant.stops none;
  front = front_more (g.O.Sink.taken c.args.sink.now) (g.O.Sink.taken c.loop-rest.sink) (g.O.Sink.taken c.write.new.self) c.args.bytes.now
      c.loop-rest.invariant.front.0 c.loop-rest.rest.now c.in_ok-count.count c.loop-rest.invariant.front.1 c.loop-rest.invariant.front.2
      c.in_ok-count.ensures.bytes c.in_ok-count.ensures.bound;
}
