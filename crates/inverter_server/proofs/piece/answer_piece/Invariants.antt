use Rattle.std.proofs.Common.{◌≡◌, List, ◌++◌, length}
use Rattle.mbap_frames.specs.Stream.{IsUnfinished}
use Rattle.inverter_server.specs.Answers.{Answered}
use Rattle.inverter_server.specs.Turns.{IsProgress}
use Rattle.inverter_server.proofs.piece.answer_piece.Given as goal

-- what is kept is less than a frame, and the frames before it were answered
abbrev pub invariant-loop-frame : goal.invariant-loop-frame
invariant-loop-frame g l = record {
  kept : IsUnfinished l.frames;
  clock : l.device.clock ≡ l.fn.device.clock;
  progress : (answers : List Answered) × IsProgress (g.K.Clock.may_give l.fn.device.clock)
      (record { bank = l.fn.device.bank; links = g.N.Dialer.links l.fn.dialer; faults = g.N.Dialer.faults l.fn.dialer })
      (record { bank = l.device.bank; links = g.N.Dialer.links l.dialer; faults = g.N.Dialer.faults l.dialer })
      (l.fn.frames ++ l.piece) (l.frames ++ l.rest) answers;
}

abbrev pub decreases-loop-frame : goal.decreases-loop-frame
decreases-loop-frame g l = length l.rest
