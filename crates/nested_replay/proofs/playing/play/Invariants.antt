use Rattle.std.proofs.Common.{◌≡◌}
use Rattle.script_text.specs.Reader.{bytes_ahead}
use Rattle.nested_replay.specs.Playing.{IsPlaying, bytes_of}
use Rattle.nested_replay.proofs.playing.play.Given as goal

abbrev pub invariant-loop-call : goal.invariant-loop-call
invariant-loop-call l = record {
  playing : IsPlaying l.lines l.plant l.text.items;
  bytes : bytes_of l.lines ≡ bytes_of l.fn.lines;
  site : l.plant.book.site ≡ l.fn.plant.book.site;
  buses : l.plant.buses ≡ l.fn.plant.buses;
}

abbrev pub decreases-loop-call : goal.decreases-loop-call
decreases-loop-call l = bytes_ahead l.lines
