use Rattle.std.proofs.Common.{◌≡◌, ◌*◌, ◌≤◌, List, ◌++◌, length}
use Rattle.mbap_frames.specs.Frame.{frame_limit}
use Rattle.mbap_frames.specs.Stream.{IsUnfinished}
use Rattle.inverter_server.specs.Answers.{Answered}
use Rattle.inverter_server.specs.Turns.{IsProgress}
use Rattle.device_dialers.specs.Device.{AreAtReadings}
use Rattle.device_dialers.proofs.Gathering.{gathered}
use Rattle.device_dialers.proofs.hearing.hear.Given as goal

-- what is kept is less than a frame, the frames before it were answered, and there is room for the answers to the rest
abbrev pub invariant-piece : goal.invariant-piece
invariant-piece g l = record {
  kept : IsUnfinished l.frames;
  clock : l.device.clock ≡ l.fn.device.clock;
  room : frame_limit * length l.rest ≤ l.replies.room;
  progress : (answers : List Answered) × IsProgress (g.K.Clock.may_give l.fn.device.clock)
      (gathered l.fn.device.bank l.fn.replies.left) (gathered l.device.bank l.replies.left) (l.fn.frames ++ l.piece) (l.frames ++ l.rest) answers
      × AreAtReadings (g.K.Clock.may_give l.fn.device.clock) l.fn.device.latest answers l.device.latest;
}

abbrev pub decreases-piece : goal.decreases-piece
decreases-piece g l = length l.rest
