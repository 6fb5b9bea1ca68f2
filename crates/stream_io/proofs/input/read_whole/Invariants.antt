use Rattle.std.proofs.Common.{◌≤◌, length}
use Rattle.stream_io.specs.Streams.{ReadsFront, Works, change}
use Rattle.stream_io.proofs.input.read_whole.Given as goal

-- no read failed, the bytes so far are the front of the source, and each turn took one at least
abbrev pub invariant-loop : goal.invariant-loop
invariant-loop g l = record {
  works : Works (change g.S.Source.left g.S.Source.faults l.fn.source l.source);
  front : ReadsFront l.fn.limit l.bytes.items (change g.S.Source.left g.S.Source.faults l.fn.source l.source);
  turns : l.counter ≤ length l.bytes.items;
}
