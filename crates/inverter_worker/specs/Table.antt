-- The worker's table: for a step and an input the next step, with what changes of the state, and the output.
-- Nothing else stands in it.
use Rattle.std.specs.Prelude.{◌==◌, nat_lt, Option, None, IsSome, if◌then◌else◌}
use Rattle.plant_book.specs.declared.call.Call.TheVariants as call
use Rattle.plant_book.specs.declared.call.Reply.TheVariants as reply
use Rattle.readback.specs.declared.judging.Judged.{Judged}
use Rattle.readback.specs.declared.judging.Judged.TheVariants.{WrongNumber, WrongUnit, Exception, WrongReply, Differs, Shows}
use Rattle.readback.specs.Judging.{judgement}
use Rattle.plant_book.specs.declared.call.Read as reads
use Rattle.inverter_worker.specs.declared.job.Job.{Job}
use Rattle.inverter_worker.specs.declared.input.Input.{Input}
use Rattle.inverter_worker.specs.declared.input.Input.TheVariants as input
use Rattle.inverter_worker.specs.declared.output.Output.{Output}
use Rattle.inverter_worker.specs.declared.output.Output.TheVariants as output
use Rattle.inverter_worker.specs.declared.output.Asked.TheVariants as asked
use Rattle.inverter_worker.specs.declared.state.State.{State}
use Rattle.inverter_worker.specs.declared.state.End.TheVariants as over
use Rattle.inverter_worker.specs.declared.state.Step.{Step}
use Rattle.inverter_worker.specs.declared.state.Step.TheVariants.{Ready, Aiming, Dialing, LinkTiming, Linking, Timing, Asking, Window, ReleaseTiming, Sending, WaitWrite, ReadTiming, ReadAsking, ReadWindow, SendingRead, WaitRead, SawTiming, SawAsking, Closing, UnfitClosing, Resting, Over}
use Rattle.inverter_worker.specs.States.{due, in_window, row_to, one_turn_less, with_link, without_link, with_link_down, with_last, with_none_skipped, with_one_more_skipped}

-- A frame of another request: at most seven are passed over in one wait.
abbrev pub other_frame_row : State → Step → Option (State × Output)
other_frame_row state step =
    if nat_lt state.skipped 7 then row_to (with_one_more_skipped state) step output.Receive
    else if state.skipped == 7 then row_to state Closing output.HangUp
    else None

-- what came to a read-back, by what it is judged
abbrev pub judgement_row : State → reads.Read → Judged → Option (State × Output)
judgement_row state read (Shows raw) = row_to state (SawTiming read raw) output.Now
judgement_row state read (Differs point wanted found) =
    row_to state (UnfitClosing point wanted found) output.HangUp
judgement_row state read (WrongNumber number) = other_frame_row state (WaitRead read)
judgement_row state read (WrongUnit unit) = row_to state Closing output.HangUp
judgement_row state read (Exception code) = row_to state Closing output.HangUp
judgement_row state read WrongReply = row_to state Closing output.HangUp

abbrev pub row : Job → State → Step → Input → Option (State × Output)
row job state Ready input.NoRoom = row_to state (Over over.NoMemory) output.End
row job state Ready input.Go =
    if state.turns == 0 then row_to state (Over over.TurnsDone) output.End
    else row_to (one_turn_less state) Aiming output.Goal
row job state Aiming (input.Goal goal) =
    if goal.stop then row_to state (Over over.Stopped) output.End
    else if state.up then row_to state (Timing goal.raw) output.Now
    else row_to state (Dialing goal.raw) output.Dial
row job state (Dialing raw) input.DialFailed = row_to state Resting (output.Rest job.pause)
row job state (Dialing raw) input.Dialed = row_to state (LinkTiming raw) output.Now
row job state (LinkTiming raw) (input.Time c) =
    row_to state (Linking raw) (output.Call (call.Link c job.inverter))
row job state (Linking raw) (input.Reply (reply.Linked link)) =
    row_to (with_link state) (Timing raw) output.Now
row job state (Timing raw) (input.Time c) =
    if due job state.last c raw then row_to state Asking (output.Call (call.Ask c job.inverter raw))
    else row_to state ReadAsking (output.Call (call.Read c job.inverter))
row job state Asking (input.Reply (reply.Granted write)) = row_to state (Window write) output.Now
row job state Asking (input.Reply reply.Spent) = row_to state Closing output.HangUp
row job state Asking (input.Reply _) = row_to state ReadTiming output.Now
row job state (Window write) (input.Time c) =
    if in_window job write c then row_to state (Sending write) (output.Send (asked.Write write) c)
    else row_to state (ReleaseTiming write) (output.Release write c)
row job state (ReleaseTiming write) (input.Reply _) = row_to state ReadTiming output.Now
row job state (Sending write) input.SentAll = row_to (with_last state write) (WaitWrite write) output.Receive
row job state (Sending write) input.SendFailed = row_to state Closing output.HangUp
row job state (WaitWrite write) (input.Frame frame) =
    if frame.transaction == write.number then row_to state ReadTiming output.Now
    else other_frame_row state (WaitWrite write)
row job state (WaitWrite write) input.Quiet = row_to state Closing output.HangUp
row job state (WaitWrite write) input.Closed = row_to state Closing output.HangUp
row job state (WaitWrite write) input.RecvFailed = row_to state Closing output.HangUp
row job state (WaitWrite write) input.BadFrame = row_to state Closing output.HangUp
row job state ReadTiming (input.Time c) = row_to state ReadAsking (output.Call (call.Read c job.inverter))
row job state ReadAsking (input.Reply (reply.ReadAs read)) = row_to state (ReadWindow read) output.Now
row job state ReadAsking (input.Reply _) = row_to state Closing output.HangUp
row job state (ReadWindow read) (input.Time c) =
    row_to state (SendingRead read) (output.Send (asked.Read read) c)
row job state (SendingRead read) input.SentAll =
    row_to (with_none_skipped state) (WaitRead read) output.Receive
row job state (SendingRead read) input.SendFailed = row_to state Closing output.HangUp
row job state (WaitRead read) (input.Frame frame) =
    judgement_row state read (judgement read job.unit job.port job.rules frame)
row job state (WaitRead read) input.Quiet = row_to state Closing output.HangUp
row job state (WaitRead read) input.Closed = row_to state Closing output.HangUp
row job state (WaitRead read) input.RecvFailed = row_to state Closing output.HangUp
row job state (WaitRead read) input.BadFrame = row_to state Closing output.HangUp
row job state (SawTiming read raw) (input.Time c) =
    row_to state SawAsking (output.Call (call.Saw c job.inverter read.number raw))
row job state SawAsking (input.Reply _) = row_to state Resting (output.Rest job.pause)
row job state Closing input.HungUp = row_to (without_link state) Resting (output.Rest job.pause)
row job state (UnfitClosing point wanted found) input.HungUp =
    row_to (with_link_down state) (Over (over.Unfit point wanted found)) output.End
row job state Resting input.Rested = row_to state Ready output.Nothing
row job state (Linking raw) input.Full = row_to state (Over over.BookFull) output.End
row job state Asking input.Full = row_to state (Over over.BookFull) output.End
row job state (ReleaseTiming write) input.Full = row_to state (Over over.BookFull) output.End
row job state ReadAsking input.Full = row_to state (Over over.BookFull) output.End
row job state SawAsking input.Full = row_to state (Over over.BookFull) output.End
row job state step came = None

-- what the table has for a state and an input, and whether it has a row for them
abbrev pub table : Job → State → Input → Option (State × Output)
table job state came = row job state state.step came

abbrev pub HasRow : Job → State → Input → Type 0
HasRow job state came = IsSome (table job state came)
