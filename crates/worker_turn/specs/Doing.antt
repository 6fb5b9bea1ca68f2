-- What it is to do an output, and which input comes of it: what the entries, the links, the clock and the
-- unread bytes are before and after.
use Rattle.std.specs.Prelude.{◌≡◌, ℕ, ◌≤◌, Bool, true, false, List, [], ◌∷◌, ◌++◌, Option, Result, Ok, Err, option_map}
use Rattle.world_traits.specs.Causes.{Rose}
use Rattle.world_traits.specs.Clocks.{moment_max}
use Rattle.world_traits.specs.Links.{Links, IsCutShort, after_hang_up, with_bytes, with_link}
use Rattle.plant_ledger.specs.Release.{back_of}
use Rattle.plant_book.specs.declared.call.Call.{Call}
use Rattle.plant_book.specs.declared.call.Reply.{Reply}
use Rattle.plant_book.specs.declared.call.TheConstants.{MOMENT_MAX}
use Rattle.plant_book.specs.declared.book.Entry.{Entry}
use Rattle.plant_book.specs.Calls.{moment, at_moment}
use Rattle.ledger_desk.specs.Calls.{IsReplyTo}
use Rattle.mbap_frames.specs.declared.frame.Frame.{Frame}
use Rattle.mbap_frames.specs.Frame.{frame_spelling}
use Rattle.readback.specs.Frames.{write_frame, read_frame}
use Rattle.frame_inbox.specs.declared.inbox.NoFrame.{NoFrame}
use Rattle.frame_inbox.specs.declared.inbox.NoFrame.TheVariants as none
use Rattle.frame_inbox.specs.Waiting.{IsWait, Counts}
use Rattle.inverter_worker.specs.declared.job.Job.{Job}
use Rattle.inverter_worker.specs.declared.input.Input.{Input}
use Rattle.inverter_worker.specs.declared.input.Input.TheVariants as input
use Rattle.inverter_worker.specs.declared.output.Output.{Output}
use Rattle.inverter_worker.specs.declared.output.Output.TheVariants as output
use Rattle.inverter_worker.specs.declared.output.Asked.{Asked}
use Rattle.inverter_worker.specs.declared.output.Asked.TheVariants as asked
use Rattle.inverter_worker.specs.Runs.{RunStep}
use Rattle.worker_turn.specs.Lines.{IsDialed}

-- What a worker reaches: the entries that were made through its desk, the record of its dialer's links where
-- that is told, the dialer's count of faults, what was read of the clock in this turn, and the bytes that
-- came on the link and weren't handed out as frames.
pub record World : Type 0 where
  pub made : List Entry
  pub links : Option Links
  pub faults : ℕ
  pub readings : List ℕ
  pub unread : List ℕ

abbrev pub world_of : (made : List Entry) → Option Links → (faults : ℕ) → (readings unread : List ℕ) → World
world_of made links faults readings unread =
    record { made = made; links = links; faults = faults; readings = readings; unread = unread }

-- the frame of a request
abbrev pub request_frame : Job → Asked → Frame
request_frame job (asked.Write write) = write_frame write job.unit job.port job.rules
request_frame job (asked.Read read) = read_frame read job.port

-- One entry more: the call, at its own moment or a later one, with the reply.
pub record IsEntered (call : Call) (reply : Reply) (old new : World) : Type 0 where
  pub at : ℕ
  pub later : moment call ≤ at
  pub high : at ≤ MOMENT_MAX
  pub fits : IsReplyTo (at_moment at call) reply
  pub is : new ≡ record old { made = old.made ++ record { call = at_moment at call; reply = reply } ∷ [] }

-- what came of a wait for a frame, as an input
abbrev pub input_of_wait : Result Frame NoFrame → Input
input_of_wait (Ok frame) = input.Frame frame
input_of_wait (Err none.Quiet) = input.Quiet
input_of_wait (Err none.Closed) = input.Closed
input_of_wait (Err none.RecvFailed) = input.RecvFailed
input_of_wait (Err (none.BadFrame fault)) = input.BadFrame

-- A wait for a frame: pieces were received, and behind them a frame stood first in the unread bytes, or a
-- fault; or the unread bytes were still less than a frame, and the next receive gave none.
pub record IsWaited (came : Input) (old new : World) : Type 0 where
  pub result : Result Frame NoFrame
  pub is : came ≡ input_of_wait result
  pub wait : IsWait result old.unread new.unread old.links new.links
  pub counts : Counts result old.faults new.faults

-- A dial was done and answered as dialed, on a line of one's own or on one that is shared.
abbrev pub DialIsDone : (shares : Bool) → Job → World → World → Type 0
DialIsDone false job old new =
    new ≡ record old { links = option_map (with_link job.port.host job.port.port) old.links; unread = [] }
DialIsDone true job old new =
    (new ≡ record old { links = new.links; unread = new.unread })
    × IsDialed true job.port.host job.port.port old.links new.links old.unread new.unread

-- An output was done on a line that is shared or isn't, and this input came of it. Behind a turn the next one
-- begins.
abbrev pub IsDoneOn : (shares : Bool) → Job → Output → Input → World → World → Type 0
IsDoneOn shares job output.Goal (input.Goal goal) old new = new ≡ old
IsDoneOn shares job output.Dial input.Dialed old new = DialIsDone shares job old new
IsDoneOn shares job output.Dial input.DialFailed old new =
    (new ≡ record old { faults = new.faults }) × Rose old.faults new.faults
IsDoneOn shares job output.Now (input.Time clock) old new =
    (new ≡ record old { readings = old.readings ++ clock ∷ [] }) × (clock ≤ moment_max)
IsDoneOn shares job (output.Call call) (input.Reply reply) old new = IsEntered call reply old new
IsDoneOn shares job (output.Call call) input.Full old new = new ≡ old
IsDoneOn shares job (output.Release write at) (input.Reply reply) old new =
    IsEntered (back_of write at) reply old new
IsDoneOn shares job (output.Release write at) input.Full old new = new ≡ old
IsDoneOn shares job (output.Send request clock) input.SentAll old new =
    new ≡ record old {
      links = option_map (with_bytes (frame_spelling (request_frame job request))) old.links;
    }
IsDoneOn shares job (output.Send request clock) input.SendFailed old new =
    (new ≡ record old { links = new.links; faults = new.faults })
    × IsCutShort (frame_spelling (request_frame job request)) old.links new.links × Rose old.faults new.faults
IsDoneOn shares job output.Receive came old new =
    (new ≡ record old { links = new.links; faults = new.faults; unread = new.unread }) × IsWaited came old new
IsDoneOn shares job output.HangUp input.HungUp old new =
    new ≡ record old { links = option_map after_hang_up old.links; unread = [] }
IsDoneOn shares job (output.Rest ms) input.Rested old new = new ≡ old
IsDoneOn shares job output.Nothing input.Go old new = new ≡ old
IsDoneOn shares job output.Nothing input.NoRoom old new = new ≡ old
IsDoneOn shares job output came old new = ⊥

-- An output was done, and then those of these steps, each with the input of the next step. What the last one
-- puts out is not done yet.
abbrev pub AreDoneOn : (shares : Bool) → Job → Output → List RunStep → World → World → Type 0
AreDoneOn shares job output [] old new = new ≡ old
AreDoneOn shares job output (next ∷ later) old new =
    (between : World) × IsDoneOn shares job output next.input old between
    × AreDoneOn shares job next.output later between new

-- The same on a line of one's own, as a worker has it.
abbrev pub IsDone : Job → Output → Input → World → World → Type 0
IsDone job output came old new = IsDoneOn false job output came old new

abbrev pub AreDone : Job → Output → List RunStep → World → World → Type 0
AreDone job output later old new = AreDoneOn false job output later old new
