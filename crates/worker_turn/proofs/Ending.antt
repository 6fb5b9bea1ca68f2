-- What a run so far ends with at each step of the table.
use Rattle.std.proofs.Common.{◌≡◌, ◌≢◌, ℕ, Bool, true, false, cond, not, ltb, eqb, List, [], ◌∷◌, ◌++◌, length, Option, Some, None, refl, sym, ap, subst, ◌∙◌, append-nil, append_assoc}
use Rattle.std.proofs.lemmas.Bool.{eqb-false}
use Rattle.mbap_frames.specs.declared.frame.Frame.{Frame}
use Rattle.modbus_pdu.specs.declared.pdu.Reply as answers
use Rattle.modbus_pdu.specs.declared.pdu.Reply.TheVariants as answer
use Rattle.plant_book.specs.declared.call.Call.TheVariants as call
use Rattle.plant_book.specs.declared.call.Reply.TheVariants as reply
use Rattle.plant_book.specs.declared.call.Read as reads
use Rattle.plant_book.specs.declared.call.Write as writes
use Rattle.readback.specs.declared.judging.Judged.{Judged}
use Rattle.readback.specs.declared.judging.Judged.TheVariants.{WrongNumber, WrongUnit, Exception, WrongReply, Differs, Shows}
use Rattle.readback.specs.Judging.{limit_judgement, reply_judgement, judgement}
use Rattle.readback.specs.Replies.{reply_of}
use Rattle.inverter_worker.specs.declared.job.Job.{Job}
use Rattle.inverter_worker.specs.declared.input.Input.{Input}
use Rattle.inverter_worker.specs.declared.input.Input.TheVariants as input
use Rattle.inverter_worker.specs.declared.output.Asked.{Asked}
use Rattle.inverter_worker.specs.declared.output.Asked.TheVariants as asked
use Rattle.inverter_worker.specs.declared.output.Output.{Output}
use Rattle.inverter_worker.specs.declared.output.Output.TheVariants as output
use Rattle.inverter_worker.specs.declared.state.State.{State}
use Rattle.inverter_worker.specs.declared.state.Step.{Step}
use Rattle.inverter_worker.specs.declared.state.Step.TheVariants.{Ready, Aiming, Dialing, LinkTiming, Linking, Timing, Asking, Window, ReleaseTiming, Sending, WaitWrite, ReadTiming, ReadAsking, ReadWindow, SendingRead, WaitRead, SawTiming, SawAsking, Closing, UnfitClosing, Resting}
use Rattle.inverter_worker.specs.States.{due, in_window}
use Rattle.inverter_worker.specs.Table.{row, other_frame_row, judgement_row}
use Rattle.inverter_worker.specs.Runs.{RunStep, LeadsTo}
use Rattle.worker_turn.specs.Turning.{pending}
use Rattle.worker_turn.specs.Requests.{IsStep, numbering, request_number, IsPassedOver, Awaits}
use Rattle.worker_turn.specs.Sights.{IsSeen}
use Rattle.worker_turn.proofs.Going.{all_push}

-- a run so far ends with the reply that numbers a request
pub record IsNumbered (request : Asked) (sofar : List RunStep) : Type 0 where
  pub before : List RunStep
  pub numbered : RunStep
  pub is : sofar ≡ before ++ numbered ∷ []
  pub is_numbered : IsStep (input.Reply (numbering request)) output.Now numbered

-- and with the request being sent
pub record IsPut (request : Asked) (sofar : List RunStep) : Type 0 where
  pub before : List RunStep
  pub numbered : RunStep
  pub sent : RunStep
  pub is : sofar ≡ before ++ numbered ∷ sent ∷ []
  pub is_numbered : IsStep (input.Reply (numbering request)) output.Now numbered
  pub clock : ℕ
  pub is_sent : IsStep (input.Time clock) (output.Send request clock) sent

-- a run so far ends with the frame that shows a raw percentage
pub record IsShown (job : Job) (read : reads.Read) (raw : ℕ) (sofar : List RunStep) : Type 0 where
  pub waited : List RunStep
  pub showed : RunStep
  pub is : sofar ≡ waited ++ showed ∷ []
  pub awaits : Awaits (asked.Read read) waited
  pub frame : Frame
  pub is_showed : IsStep (input.Frame frame) output.Now showed
  pub shows : judgement read job.unit job.port job.rules frame ≡ Shows raw

abbrev pub Ends : Job → Step → List RunStep → Type 0
Ends job (Window write) sofar = IsNumbered (asked.Write write) sofar
Ends job (Sending write) sofar = IsPut (asked.Write write) sofar
Ends job (WaitWrite write) sofar = Awaits (asked.Write write) sofar
Ends job (ReadWindow read) sofar = IsNumbered (asked.Read read) sofar
Ends job (SendingRead read) sofar = IsPut (asked.Read read) sofar
Ends job (WaitRead read) sofar = Awaits (asked.Read read) sofar
Ends job (SawTiming read raw) sofar = IsShown job read raw sofar
Ends job step sofar = Unit {0}

-- what the last output of a run so far tells of it
abbrev pub Tells : Job → Output → List RunStep → Type 0
Tells job output.Receive sofar = (request : Asked) × Awaits request sofar
Tells job (output.Call (call.Saw at inverter number raw)) sofar = IsSeen job sofar at inverter number raw
Tells job put sofar = Unit {0}

-- a run so far and one step more
abbrev pub with_step : List RunStep → State → Input → Output → List RunStep
with_step sofar state came put = sofar ++ record { state = state; input = came; output = put } ∷ []

push : (before : List RunStep) (tail sofar : List RunStep) (one : RunStep) → sofar ≡ before ++ tail → sofar ++ one ∷ [] ≡ before ++ (tail ++ one ∷ [])
push before tail sofar one is = ap (λ (t : List RunStep). t ++ one ∷ []) is ∙ append_assoc before tail (one ∷ [])

-- what a frame is judged to be, other than of another number
abbrev pub IsOfNumber : Judged → Type 0
IsOfNumber (WrongNumber number) = ⊥
IsOfNumber judged = Unit {0}

either_of_number : (b : Bool) (x y : Judged) → IsOfNumber x → IsOfNumber y → IsOfNumber (cond b x y)
either_of_number true x y p q = p
either_of_number false x y p q = q

limit_of_number : (floor timer : ℕ) (view : _) → IsOfNumber (limit_judgement floor timer view)
unfolding limit_judgement
limit_of_number floor timer view =
    either_of_number (not (eqb view.ena 1)) _ _ tt (either_of_number (not (eqb view.pct_rvrt floor)) _ _ tt
    (either_of_number (not (eqb view.ena_rvrt 1)) _ _ tt (either_of_number (not (eqb view.tms timer)) _ _ tt tt)))

reply_of_number : (floor timer : ℕ) (reply : Option answers.Reply) → IsOfNumber (reply_judgement floor timer reply)
reply_of_number floor timer (Some (answer.Exception function code)) = either_of_number (eqb function 3) _ _ tt tt
reply_of_number floor timer (Some (answer.Regs values)) = either_of_number (eqb (length values) 8) _ _ (limit_of_number floor timer _) tt
reply_of_number floor timer (Some (answer.Wrote start count)) = tt
reply_of_number floor timer None = tt

numbers_differ : (b : Bool) (x y : Judged) (number : ℕ) → IsOfNumber y → cond (not b) x y ≡ WrongNumber number → b ≡ false
numbers_differ true x y number of is = absurd (subst IsOfNumber is of)
numbers_differ false x y number of is = refl

of_another : (job : Job) (read : reads.Read) (frame : Frame) (number : ℕ) → judgement read job.unit job.port job.rules frame ≡ WrongNumber number
    → frame.transaction ≢ read.number
of_another job read frame number is = eqb-false frame.transaction read.number
    (numbers_differ (eqb frame.transaction read.number) _ _ number
    (either_of_number (not (eqb frame.unit job.port.unit)) _ _ tt (reply_of_number job.unit.floor job.rules.timer (reply_of frame.pdu))) is)

-- the steps, one after another
module _ (job : Job) (state : State) (sofar : List RunStep) where
  numbers : (request : Asked) → IsNumbered request (with_step sofar state (input.Reply (numbering request)) output.Now)
  numbers request = record {
    before = sofar;
    numbered = record { state = state; input = input.Reply (numbering request); output = output.Now };
    is = refl;
    is_numbered = (refl, refl);
  }

  puts : (request : Asked) (clock : ℕ) → IsNumbered request sofar → IsPut request (with_step sofar state (input.Time clock) (output.Send request clock))
  puts request clock has = record {
    before = has.before;
    numbered = has.numbered;
    sent = record { state = state; input = input.Time clock; output = output.Send request clock };
    is = push has.before (has.numbered ∷ []) sofar _ has.is;
    is_numbered = has.is_numbered;
    clock = clock;
    is_sent = (refl, refl);
  }

  waits : (request : Asked) → IsPut request sofar → Awaits request (with_step sofar state input.SentAll output.Receive)
  waits request has = record {
    before = has.before;
    numbered = has.numbered;
    sent = has.sent;
    whole = record { state = state; input = input.SentAll; output = output.Receive };
    passed = [];
    is = push has.before (has.numbered ∷ has.sent ∷ []) sofar _ has.is;
    is_numbered = has.is_numbered;
    clock = has.clock;
    is_sent = has.is_sent;
    is_whole = (refl, refl);
    are_passed = tt;
  }

  waits_on : (request : Asked) (frame : Frame) → frame.transaction ≢ request_number request → Awaits request sofar
      → Awaits request (with_step sofar state (input.Frame frame) output.Receive)
  waits_on request frame other has =
      let one : RunStep = record { state = state; input = input.Frame frame; output = output.Receive } in record {
        before = has.before;
        numbered = has.numbered;
        sent = has.sent;
        whole = has.whole;
        passed = has.passed ++ one ∷ [];
        is = push has.before (has.numbered ∷ has.sent ∷ has.whole ∷ has.passed) sofar one has.is;
        is_numbered = has.is_numbered;
        clock = has.clock;
        is_sent = has.is_sent;
        is_whole = has.is_whole;
        are_passed = all_push (IsPassedOver request) has.passed one has.are_passed (frame, other, (refl, refl));
      }

  shown : (read : reads.Read) (raw : ℕ) (frame : Frame) → judgement read job.unit job.port job.rules frame ≡ Shows raw → Awaits (asked.Read read) sofar
      → IsShown job read raw (with_step sofar state (input.Frame frame) output.Now)
  shown read raw frame shows has = record {
    waited = sofar;
    showed = record { state = state; input = input.Frame frame; output = output.Now };
    is = refl;
    awaits = has;
    frame = frame;
    is_showed = (refl, refl);
    shows = shows;
  }

  seen : (read : reads.Read) (raw at : ℕ) → IsShown job read raw sofar
      → IsSeen job (with_step sofar state (input.Time at) (output.Call (call.Saw at job.inverter read.number raw))) at job.inverter read.number raw
  seen read raw at has = record {
    waited = has.waited;
    showed = has.showed;
    called = record { state = state; input = input.Time at; output = output.Call (call.Saw at job.inverter read.number raw) };
    is = push has.waited (has.showed ∷ []) sofar _ has.is;
    read = read;
    awaits = has.awaits;
    frame = has.frame;
    is_showed = has.is_showed;
    shows = has.shows;
    is_called = (refl, refl);
    same_number = refl;
    own = refl;
  }

-- what a row keeps
abbrev pub Keeps : Job → State → List RunStep → Input → Option (State × Output) → Type 0
Keeps job state sofar came None = Unit {0}
Keeps job state sofar came (Some row) =
    Ends job row.0.step (with_step sofar state came row.1) × Tells job row.1 (with_step sofar state came row.1)

either : (job : Job) (state : State) (sofar : List RunStep) (came : Input) (b : Bool) (x y : Option (State × Output))
    → Keeps job state sofar came x → (b ≡ false → Keeps job state sofar came y) → Keeps job state sofar came (cond b x y)
either job state sofar came true x y p q = p
either job state sofar came false x y p q = q refl

module _ (job : Job) (state from : State) (sofar : List RunStep) where
  passing_write : (write : writes.Write) (frame : Frame) → frame.transaction ≢ request_number (asked.Write write) → Awaits (asked.Write write) sofar
      → Keeps job state sofar (input.Frame frame) (other_frame_row from (WaitWrite write))
  passing_write write frame other has =
      let more : Awaits (asked.Write write) (with_step sofar state (input.Frame frame) output.Receive) = waits_on job state sofar (asked.Write write) frame other has in
      either job state sofar (input.Frame frame) (ltb from.skipped 7) _ _ (more, (asked.Write write, more))
      (λ _. either job state sofar (input.Frame frame) (eqb from.skipped 7) _ _ (tt, tt) (λ _. tt))

  passing_read : (read : reads.Read) (frame : Frame) → frame.transaction ≢ request_number (asked.Read read) → Awaits (asked.Read read) sofar
      → Keeps job state sofar (input.Frame frame) (other_frame_row from (WaitRead read))
  passing_read read frame other has =
      let more : Awaits (asked.Read read) (with_step sofar state (input.Frame frame) output.Receive) = waits_on job state sofar (asked.Read read) frame other has in
      either job state sofar (input.Frame frame) (ltb from.skipped 7) _ _ (more, (asked.Read read, more))
      (λ _. either job state sofar (input.Frame frame) (eqb from.skipped 7) _ _ (tt, tt) (λ _. tt))

  judging : (read : reads.Read) (frame : Frame) (judged : Judged) → judgement read job.unit job.port job.rules frame ≡ judged → Awaits (asked.Read read) sofar
      → Keeps job state sofar (input.Frame frame) (judgement_row from read judged)
  judging read frame (Shows raw) is has = (shown job state sofar read raw frame is has, tt)
  judging read frame (Differs point wanted found) is has = (tt, tt)
  judging read frame (WrongNumber number) is has = passing_read read frame (of_another job read frame number is) has
  judging read frame (WrongUnit unit) is has = (tt, tt)
  judging read frame (Exception code) is has = (tt, tt)
  judging read frame WrongReply is has = (tt, tt)

  rows : (step : Step) (came : Input) → Ends job step sofar → Keeps job state sofar came (row job from step came)
  rows Ready input.NoRoom has = (tt, tt)
  rows Ready input.Go has = either job state sofar input.Go (eqb from.turns 0) _ _ (tt, tt) (λ _. (tt, tt))
  rows Aiming (input.Goal goal) has = either job state sofar (input.Goal goal) goal.stop _ _ (tt, tt)
      (λ _. either job state sofar (input.Goal goal) from.up _ _ (tt, tt) (λ _. (tt, tt)))
  rows (Dialing raw) input.DialFailed has = (tt, tt)
  rows (Dialing raw) input.Dialed has = (tt, tt)
  rows (LinkTiming raw) (input.Time c) has = (tt, tt)
  rows (Linking raw) (input.Reply (reply.Linked number)) has = (tt, tt)
  rows (Linking raw) input.Full has = (tt, tt)
  rows (Timing raw) (input.Time c) has = either job state sofar (input.Time c) (due job from.last c raw) _ _ (tt, tt) (λ _. (tt, tt))
  rows Asking (input.Reply (reply.Granted write)) has = (numbers job state sofar (asked.Write write), tt)
  rows Asking (input.Reply reply.Spent) has = (tt, tt)
  rows Asking (input.Reply _) has = (tt, tt)
  rows Asking input.Full has = (tt, tt)
  rows (Window write) (input.Time c) has = either job state sofar (input.Time c) (in_window job write c) _ _
      (puts job state sofar (asked.Write write) c has, tt) (λ _. (tt, tt))
  rows (ReleaseTiming write) (input.Reply _) has = (tt, tt)
  rows (ReleaseTiming write) input.Full has = (tt, tt)
  rows (Sending write) input.SentAll has =
      let more : Awaits (asked.Write write) (with_step sofar state input.SentAll output.Receive) = waits job state sofar (asked.Write write) has in
      (more, (asked.Write write, more))
  rows (Sending write) input.SendFailed has = (tt, tt)
  rows (WaitWrite write) (input.Frame frame) has = either job state sofar (input.Frame frame) (eqb frame.transaction write.number) _ _ (tt, tt)
      (λ other. passing_write write frame (eqb-false frame.transaction write.number other) has)
  rows (WaitWrite write) input.Quiet has = (tt, tt)
  rows (WaitWrite write) input.Closed has = (tt, tt)
  rows (WaitWrite write) input.RecvFailed has = (tt, tt)
  rows (WaitWrite write) input.BadFrame has = (tt, tt)
  rows ReadTiming (input.Time c) has = (tt, tt)
  rows ReadAsking (input.Reply (reply.ReadAs read)) has = (numbers job state sofar (asked.Read read), tt)
  rows ReadAsking (input.Reply _) has = (tt, tt)
  rows ReadAsking input.Full has = (tt, tt)
  rows (ReadWindow read) (input.Time c) has = (puts job state sofar (asked.Read read) c has, tt)
  rows (SendingRead read) input.SentAll has =
      let more : Awaits (asked.Read read) (with_step sofar state input.SentAll output.Receive) = waits job state sofar (asked.Read read) has in
      (more, (asked.Read read, more))
  rows (SendingRead read) input.SendFailed has = (tt, tt)
  rows (WaitRead read) (input.Frame frame) has = judging read frame (judgement read job.unit job.port job.rules frame) refl has
  rows (WaitRead read) input.Quiet has = (tt, tt)
  rows (WaitRead read) input.Closed has = (tt, tt)
  rows (WaitRead read) input.RecvFailed has = (tt, tt)
  rows (WaitRead read) input.BadFrame has = (tt, tt)
  rows (SawTiming read raw) (input.Time c) has = (tt, seen job state sofar read raw c has)
  rows SawAsking (input.Reply _) has = (tt, tt)
  rows SawAsking input.Full has = (tt, tt)
  rows Closing input.HungUp has = (tt, tt)
  rows (UnfitClosing point wanted found) input.HungUp has = (tt, tt)
  rows Resting input.Rested has = (tt, tt)
  rows step came has = tt

-- so it is at the end of each run
kept : (job : Job) (from last : State) (put : Output) (sofar later : List RunStep) → Ends job from.step sofar → Tells job put sofar → LeadsTo job from later last
    → Tells job (pending put later) (sofar ++ later)
kept job from last put sofar [] ends tells leads = subst (λ (t : List RunStep). Tells job put t) (sym (append-nil sofar)) tells
kept job from last put sofar (one ∷ later) ends tells leads =
    let next = leads.1.0 in
    let P : Option (State × Output) → Type 0 = λ row. Keeps job one.state sofar one.input row in
    let here : Keeps job one.state sofar one.input (Some (next, one.output)) = subst P leads.1.1.0 (rows job one.state from sofar from.step one.input ends) in
    subst (λ (t : List RunStep). Tells job (pending one.output later) t) (append_assoc sofar (one ∷ []) later)
    (kept job next last one.output (sofar ++ one ∷ []) later here.0 here.1 leads.1.1.1)

pub told : (job : Job) (begun last : State) (run : List RunStep) → begun.step ≡ Ready → LeadsTo job begun run last → Tells job (pending output.Nothing run) run
told job begun last run ready leads =
    kept job begun last output.Nothing [] run (subst (λ (step : Step). Ends job step []) (sym ready) tt) tt leads
