-- Each input that may come of an output of the table has a row.
use Rattle.std.proofs.Common.{◌≡◌, ℕ, ◌+◌, ◌≤◌, Bool, true, false, cond, ◌||◌, ltb, eqb, Option, Some, None, refl, arith, subst, inl, inr}
use Rattle.std.specs.Prelude.{IsSome}
use Rattle.std.proofs.lemmas.Bool.{cases_lt, lt-ltb, le-ltb, eq-eqb, ltb-true}
use Rattle.limiter_num.specs.declared.rating.Point.{Point}
use Rattle.plant_book.specs.declared.call.Read as reads
use Rattle.plant_book.specs.declared.call.Write as writes
use Rattle.plant_book.specs.declared.call.Call.TheVariants as call
use Rattle.plant_book.specs.declared.call.Reply.TheVariants as reply
use Rattle.readback.specs.declared.judging.Judged.{Judged}
use Rattle.readback.specs.declared.judging.Judged.TheVariants.{WrongNumber, WrongUnit, Exception, WrongReply, Differs, Shows}
use Rattle.readback.specs.Judging.{judgement}
use Rattle.inverter_worker.specs.declared.job.Job.{Job}
use Rattle.inverter_worker.specs.declared.input.Input.{Input}
use Rattle.inverter_worker.specs.declared.input.Input.TheVariants as input
use Rattle.inverter_worker.specs.declared.output.Output.{Output}
use Rattle.inverter_worker.specs.declared.output.Output.TheVariants as output
use Rattle.inverter_worker.specs.declared.output.Asked.TheVariants as asked
use Rattle.inverter_worker.specs.declared.state.State.{State}
use Rattle.inverter_worker.specs.declared.state.End.{End}
use Rattle.inverter_worker.specs.declared.state.End.TheVariants as over
use Rattle.inverter_worker.specs.declared.state.Step.{Step}
use Rattle.inverter_worker.specs.declared.state.Step.TheVariants.{Ready, Aiming, Dialing, LinkTiming, Linking, Timing, Asking, Window, ReleaseTiming, Sending, WaitWrite, ReadTiming, ReadAsking, ReadWindow, SendingRead, WaitRead, SawTiming, SawAsking, Closing, UnfitClosing, Resting, Over}
use Rattle.inverter_worker.specs.States.{due, in_window, row_to, one_turn_less, with_link, without_link, with_link_down, with_last, with_none_skipped, with_one_more_skipped}
use Rattle.inverter_worker.specs.Table.{row, table, HasRow, other_frame_row, judgement_row}
use Rattle.inverter_worker.specs.Answers.{IsAnswerTo}

-- each input that may come of a row's output has a row
abbrev pub HasAnswers : Job → Option (State × Output) → Type 0
HasAnswers job None = Unit {0}
HasAnswers job (Some row) = (answer : Input) → IsAnswerTo row.1 answer → HasRow job row.0 answer

either : (job : Job) (b : Bool) (x y : Option (State × Output)) → (b ≡ true → HasAnswers job x)
    → (b ≡ false → HasAnswers job y)
    → HasAnswers job (cond b x y)
either job true x y p q = p refl
either job false x y p q = q refl

both : (b : Bool) (x y : Option (State × Output)) → IsSome x → IsSome y → IsSome (cond b x y)
both true x y p q = p
both false x y p q = q

first_of_two : (b c : Bool) (x y : Option (State × Output)) → (b || c) ≡ true → IsSome x → IsSome y
    → IsSome (cond b x (cond c y None))
first_of_two true c x y passes p q = p
first_of_two false true x y passes p q = q
first_of_two false false x y passes p q = absurd cc

at_most_7 : (n : ℕ) → n ≤ 7 → (ltb n 7 || eqb n 7) ≡ true
at_most_7 n few = elim (cases_lt n 7) [
  | inl below ↦ rw (lt-ltb n 7 below) refl
  | inr above ↦ rw (le-ltb n 7 above, eq-eqb n 7 (omega arith)) refl
]

another_frame : (state : State) (step : Step) → state.skipped ≤ 7 → IsSome (other_frame_row state step)
another_frame state step few = first_of_two (ltb state.skipped 7) (eqb state.skipped 7) _ _
    (at_most_7 state.skipped few) refl refl

judged_frame : (state : State) (read : reads.Read) (judged : Judged) → state.skipped ≤ 7
    → IsSome (judgement_row state read judged)
judged_frame state read (Shows raw) few = refl
judged_frame state read (Differs point wanted found) few = refl
judged_frame state read (WrongNumber number) few = another_frame state (WaitRead read) few
judged_frame state read (WrongUnit unit) few = refl
judged_frame state read (Exception code) few = refl
judged_frame state read WrongReply few = refl

-- the steps with their outputs, one after another
module _ (job : Job) (state : State) where
  ready : HasAnswers job (row_to state Ready output.Nothing)
  ready input.NoRoom h = refl
  ready input.Go h = both (eqb state.turns 0) _ _ refl refl
  ready _ h = absurd h

  ended : (end : End) → HasAnswers job (row_to state (Over end) output.End)
  ended end _ h = absurd h

  aiming : HasAnswers job (row_to state Aiming output.Goal)
  aiming (input.Goal goal) h = both goal.stop _ _ refl (both state.up _ _ refl refl)
  aiming _ h = absurd h

  dialing : (raw : ℕ) → HasAnswers job (row_to state (Dialing raw) output.Dial)
  dialing raw input.DialFailed h = refl
  dialing raw input.Dialed h = refl
  dialing raw _ h = absurd h

  link_timing : (raw : ℕ) → HasAnswers job (row_to state (LinkTiming raw) output.Now)
  link_timing raw (input.Time c) h = refl
  link_timing raw _ h = absurd h

  linking : (raw c : ℕ) → HasAnswers job (row_to state (Linking raw) (output.Call (call.Link c job.inverter)))
  linking raw c (input.Reply (reply.Linked number)) h = refl
  linking raw c input.Full h = refl
  linking raw c _ h = absurd h

  timing : (raw : ℕ) → HasAnswers job (row_to state (Timing raw) output.Now)
  timing raw (input.Time c) h = both (due job state.last c raw) _ _ refl refl
  timing raw _ h = absurd h

  asking : (raw c : ℕ) → HasAnswers job (row_to state Asking (output.Call (call.Ask c job.inverter raw)))
  asking raw c (input.Reply (reply.Granted write)) h = refl
  asking raw c (input.Reply reply.Spent) h = refl
  asking raw c (input.Reply _) h = refl
  asking raw c input.Full h = refl
  asking raw c _ h = absurd h

  window : (write : writes.Write) → HasAnswers job (row_to state (Window write) output.Now)
  window write (input.Time c) h = both (in_window job write c) _ _ refl refl
  window write _ h = absurd h

  release_timing : (write : writes.Write) (c : ℕ)
      → HasAnswers job (row_to state (ReleaseTiming write) (output.Release write c))
  release_timing write c (input.Reply answer) h = refl
  release_timing write c input.Full h = refl
  release_timing write c _ h = absurd h

  sending : (write : writes.Write) (c : ℕ)
      → HasAnswers job (row_to state (Sending write) (output.Send (asked.Write write) c))
  sending write c input.SentAll h = refl
  sending write c input.SendFailed h = refl
  sending write c _ h = absurd h

  wait_write : (write : writes.Write) → state.skipped ≤ 7
      → HasAnswers job (row_to state (WaitWrite write) output.Receive)
  wait_write write few (input.Frame frame) h =
      both (eqb frame.transaction write.number) _ _ refl (another_frame
      (record state { step = WaitWrite write }) (WaitWrite write) few)
  wait_write write few input.Quiet h = refl
  wait_write write few input.Closed h = refl
  wait_write write few input.RecvFailed h = refl
  wait_write write few input.BadFrame h = refl
  wait_write write few _ h = absurd h

  read_timing : HasAnswers job (row_to state ReadTiming output.Now)
  read_timing (input.Time c) h = refl
  read_timing _ h = absurd h

  read_asking : (c : ℕ) → HasAnswers job (row_to state ReadAsking (output.Call (call.Read c job.inverter)))
  read_asking c (input.Reply (reply.ReadAs read)) h = refl
  read_asking c (input.Reply _) h = refl
  read_asking c input.Full h = refl
  read_asking c _ h = absurd h

  read_window : (read : reads.Read) → HasAnswers job (row_to state (ReadWindow read) output.Now)
  read_window read (input.Time c) h = refl
  read_window read _ h = absurd h

  sending_read : (read : reads.Read) (c : ℕ)
      → HasAnswers job (row_to state (SendingRead read) (output.Send (asked.Read read) c))
  sending_read read c input.SentAll h = refl
  sending_read read c input.SendFailed h = refl
  sending_read read c _ h = absurd h

  wait_read : (read : reads.Read) → state.skipped ≤ 7 → HasAnswers job (row_to state (WaitRead read) output.Receive)
  wait_read read few (input.Frame frame) h =
      judged_frame (record state { step = WaitRead read }) read (judgement read job.unit job.port job.rules frame) few
  wait_read read few input.Quiet h = refl
  wait_read read few input.Closed h = refl
  wait_read read few input.RecvFailed h = refl
  wait_read read few input.BadFrame h = refl
  wait_read read few _ h = absurd h

  saw_timing : (read : reads.Read) (raw : ℕ) → HasAnswers job (row_to state (SawTiming read raw) output.Now)
  saw_timing read raw (input.Time c) h = refl
  saw_timing read raw _ h = absurd h

  saw_asking : (number raw c : ℕ)
      → HasAnswers job (row_to state SawAsking (output.Call (call.Saw c job.inverter number raw)))
  saw_asking number raw c (input.Reply answer) h = refl
  saw_asking number raw c input.Full h = refl
  saw_asking number raw c _ h = absurd h

  closing : HasAnswers job (row_to state Closing output.HangUp)
  closing input.HungUp h = refl
  closing _ h = absurd h

  unfit_closing : (point : Point) (wanted found : ℕ)
      → HasAnswers job (row_to state (UnfitClosing point wanted found) output.HangUp)
  unfit_closing point wanted found input.HungUp h = refl
  unfit_closing point wanted found _ h = absurd h

  resting : HasAnswers job (row_to state Resting (output.Rest job.pause))
  resting input.Rested h = refl
  resting _ h = absurd h

passing_over : (job : Job) (state : State) (step : Step)
    → (state.skipped + 1 ≤ 7 → HasAnswers job (row_to (with_one_more_skipped state) step output.Receive))
    → HasAnswers job (other_frame_row state step)
passing_over job state step more =
    either job (ltb state.skipped 7) _ _ (λ below. more (omega (arith, ltb-true state.skipped 7 below)))
    (λ _. either job (eqb state.skipped 7) _ _ (λ _. closing job state) (λ _. tt))

judging : (job : Job) (state : State) (read : reads.Read) (judged : Judged)
    → HasAnswers job (judgement_row state read judged)
judging job state read (Shows raw) = saw_timing job state read raw
judging job state read (Differs point wanted found) = unfit_closing job state point wanted found
judging job state read (WrongNumber number) = passing_over job state (WaitRead read) (wait_read job
    (with_one_more_skipped state) read)
judging job state read (WrongUnit unit) = closing job state
judging job state read (Exception code) = closing job state
judging job state read WrongReply = closing job state

-- the rows
rows : (job : Job) (state : State) (step : Step) (came : Input) → HasAnswers job (row job state step came)
rows job state Ready input.NoRoom = ended job state over.NoMemory
rows job state Ready input.Go =
    either job (eqb state.turns 0) _ _ (λ _. ended job state over.TurnsDone) (λ _. aiming job (one_turn_less state))
rows job state Aiming (input.Goal goal) =
    either job goal.stop _ _ (λ _. ended job state over.Stopped)
    (λ _. either job state.up _ _ (λ _. timing job state goal.raw) (λ _. dialing job state goal.raw))
rows job state (Dialing raw) input.DialFailed = resting job state
rows job state (Dialing raw) input.Dialed = link_timing job state raw
rows job state (LinkTiming raw) (input.Time c) = linking job state raw c
rows job state (Linking raw) (input.Reply (reply.Linked number)) = timing job (with_link state) raw
rows job state (Linking raw) input.Full = ended job state over.BookFull
rows job state (Timing raw) (input.Time c) =
    either job (due job state.last c raw) _ _ (λ _. asking job state raw c) (λ _. read_asking job state c)
rows job state Asking (input.Reply (reply.Granted write)) = window job state write
rows job state Asking (input.Reply reply.Spent) = closing job state
rows job state Asking (input.Reply _) = read_timing job state
rows job state Asking input.Full = ended job state over.BookFull
rows job state (Window write) (input.Time c) =
    either job (in_window job write c) _ _ (λ _. sending job state write c) (λ _. release_timing job state write c)
rows job state (ReleaseTiming write) (input.Reply _) = read_timing job state
rows job state (ReleaseTiming write) input.Full = ended job state over.BookFull
rows job state (Sending write) input.SentAll = wait_write job (with_last state write) write (omega arith)
rows job state (Sending write) input.SendFailed = closing job state
rows job state (WaitWrite write) (input.Frame frame) =
    either job (eqb frame.transaction write.number) _ _ (λ _. read_timing job state)
    (λ _. passing_over job state (WaitWrite write) (wait_write job (with_one_more_skipped state) write))
rows job state (WaitWrite write) input.Quiet = closing job state
rows job state (WaitWrite write) input.Closed = closing job state
rows job state (WaitWrite write) input.RecvFailed = closing job state
rows job state (WaitWrite write) input.BadFrame = closing job state
rows job state ReadTiming (input.Time c) = read_asking job state c
rows job state ReadAsking (input.Reply (reply.ReadAs read)) = read_window job state read
rows job state ReadAsking (input.Reply _) = closing job state
rows job state ReadAsking input.Full = ended job state over.BookFull
rows job state (ReadWindow read) (input.Time c) = sending_read job state read c
rows job state (SendingRead read) input.SentAll = wait_read job (with_none_skipped state) read (omega arith)
rows job state (SendingRead read) input.SendFailed = closing job state
rows job state (WaitRead read) (input.Frame frame) = judging job state read
    (judgement read job.unit job.port job.rules frame)
rows job state (WaitRead read) input.Quiet = closing job state
rows job state (WaitRead read) input.Closed = closing job state
rows job state (WaitRead read) input.RecvFailed = closing job state
rows job state (WaitRead read) input.BadFrame = closing job state
rows job state (SawTiming read raw) (input.Time c) = saw_asking job state read.number raw c
rows job state SawAsking (input.Reply _) = resting job state
rows job state SawAsking input.Full = ended job state over.BookFull
rows job state Closing input.HungUp = resting job (without_link state)
rows job state (UnfitClosing point wanted found) input.HungUp = ended job (with_link_down state)
    (over.Unfit point wanted found)
rows job state Resting input.Rested = ready job state
rows job state step came = tt

pub answered : (job : Job) (state next : State) (came answer : Input) (output : Output)
    → table job state came ≡ Some (next, output) → IsAnswerTo output answer → HasRow job next answer
answered job state next came answer output is =
    let P : Option (State × Output) → Type 0 = λ row. HasAnswers job row in
    subst P is (rows job state state.step came) answer
