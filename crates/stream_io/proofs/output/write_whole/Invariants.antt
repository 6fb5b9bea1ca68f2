use Rattle.std.proofs.Common.{◌≡◌, ◌++◌, ℕ, List, length}
use Rattle.std.specs.Io.KnownBytes.{Appends}
use Rattle.stream_io.proofs.output.write_whole.Given as goal

-- no write failed, and the sink took the bytes but the rest
abbrev pub invariant-loop-rest : goal.invariant-loop-rest
invariant-loop-rest g l = record {
  kept : g.O.Sink.faults l.sink ≡ g.O.Sink.faults l.fn.sink;
  stops : g.O.Sink.faults l.fn.sink ≡ 0 → g.O.Sink.late l.sink ≡ g.O.Sink.late l.fn.sink;
  front : (front : List ℕ) × (l.bytes ≡ front ++ l.rest) × Appends (g.O.Sink.taken l.fn.sink) (g.O.Sink.taken l.sink) front;
}

abbrev pub decreases-loop-rest : goal.decreases-loop-rest
decreases-loop-rest g l = length l.rest
