-- What a frame that comes makes of a commissioning.
use Rattle.std.specs.Prelude.{ℕ, ◌+◌, ◌==◌, nat_lt, Bool, not, ◌&&◌, Option, None, Result, Ok, Err, if◌then◌else◌}
use Rattle.modbus_pdu.specs.declared.pdu.Reply.{Reply}
use Rattle.mbap_frames.specs.declared.frame.Frame.{Frame}
use Rattle.readback.specs.Replies.{reply_of}
use Rattle.commissioning.specs.declared.commission.Took.{Took}
use Rattle.commissioning.specs.declared.commission.Took.TheVariants.{Skipped, Taken}
use Rattle.commissioning.specs.declared.fault.CommissionFault.{CommissionFault}
use Rattle.commissioning.specs.declared.target.Target.{Target}
use Rattle.commissioning.specs.Stage.{Stage, Discovering, ReadingCapacity, ReadingControls, WritingFloor, ReadingBack, Commissioned, Refused, Standing}
use Rattle.commissioning.specs.Replies.{stage_after}

-- a frame of another transaction number is skipped, seven at most for each request
abbrev pub is_skipped : Standing → Frame → Bool
is_skipped standing frame = not (frame.transaction == standing.number) && nat_lt standing.skipped 7

-- the reply in another frame; none where it has another transaction or unit number, or is no reply
abbrev pub reply_in : Target → (number : ℕ) → Frame → Option Reply
reply_in target number frame =
    if (frame.transaction == number) && (frame.unit == target.port.unit) then reply_of frame.pdu else None

-- a commissioning after a frame that came while something was asked
abbrev pub taken : Standing → Frame → Standing
taken standing frame =
    if is_skipped standing frame then record standing { skipped = standing.skipped + 1 }
    else record {
      target = standing.target;
      stage = stage_after standing.target standing.stage (reply_in standing.target standing.number frame);
      number = standing.number + 1;
      skipped = 0;
    }

-- what is answered at a stage to which a reply led
abbrev pub outcome : Stage → Result Took CommissionFault
outcome (Refused error found) = Err error
outcome (Discovering walk) = Ok Taken
outcome (ReadingCapacity start base) = Ok Taken
outcome (ReadingControls base wmax wsf) = Ok Taken
outcome (WritingFloor found) = Ok Taken
outcome (ReadingBack found) = Ok Taken
outcome (Commissioned found) = Ok Taken

-- what is answered to a frame
abbrev pub answer : Standing → Frame → Result Took CommissionFault
answer standing frame =
    if is_skipped standing frame then Ok Skipped else outcome (taken standing frame).stage
