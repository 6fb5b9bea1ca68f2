use Rattle.script_text.specs.Reader.{bytes_ahead}
use Rattle.script_replay.specs.Playing.{IsReplayed, bytes_of}
use Rattle.script_replay.proofs.playing.play.Given as goal

abbrev pub invariant-loop-line : goal.invariant-loop-line
invariant-loop-line l = IsReplayed (bytes_of l.fn.lines) l.fn.plant l.lines l.plant l.text.items

abbrev pub decreases-loop-line : goal.decreases-loop-line
decreases-loop-line l = bytes_ahead l.lines
