-- A turn is short: what each row takes of what a turn may have left.
use Rattle.std.proofs.Common.{◌≡◌, ◌≢◌, ℕ, ◌+◌, ◌-◌, ◌≤◌, Bool, true, false, cond, ltb, eqb, List, [], ◌∷◌, length, Option, Some, None, refl, subst, arith, length-append}
use Rattle.std.specs.List.{AllByRecursion}
use Rattle.std.proofs.lemmas.Bool.{ltb-true}
use Rattle.mbap_frames.specs.declared.frame.Frame.{Frame}
use Rattle.plant_book.specs.declared.call.Read as reads
use Rattle.plant_book.specs.declared.call.Write as writes
use Rattle.plant_book.specs.declared.call.Reply.TheVariants as reply
use Rattle.readback.specs.declared.judging.Judged.{Judged}
use Rattle.readback.specs.declared.judging.Judged.TheVariants.{WrongNumber, WrongUnit, Exception, WrongReply, Differs, Shows}
use Rattle.readback.specs.Judging.{judgement}
use Rattle.inverter_worker.specs.declared.job.Job.{Job}
use Rattle.inverter_worker.specs.declared.input.Input.{Input}
use Rattle.inverter_worker.specs.declared.input.Input.TheVariants as input
use Rattle.inverter_worker.specs.declared.output.Output.{Output}
use Rattle.inverter_worker.specs.declared.state.State.{State}
use Rattle.inverter_worker.specs.declared.state.Step.{Step}
use Rattle.inverter_worker.specs.declared.state.Step.TheVariants.{Ready, Aiming, Dialing, LinkTiming, Linking, Timing, Asking, Window, ReleaseTiming, Sending, WaitWrite, ReadTiming, ReadAsking, ReadWindow, SendingRead, WaitRead, SawTiming, SawAsking, Closing, UnfitClosing, Resting, Over}
use Rattle.inverter_worker.specs.States.{due, in_window}
use Rattle.inverter_worker.specs.Table.{row, other_frame_row, judgement_row}
use Rattle.inverter_worker.specs.Runs.{RunStep, LeadsTo, log, sends_of}
use Rattle.inverter_worker.specs.Turns.{reading_in, readings, IsWithinTurn, IsShort}

-- at most so many steps are left of a turn, by the frames that were passed over and the step
abbrev pub steps_left : ℕ → Step → ℕ
steps_left skipped Ready = 0
steps_left skipped Aiming = 31
steps_left skipped (Dialing raw) = 30
steps_left skipped (LinkTiming raw) = 29
steps_left skipped (Linking raw) = 28
steps_left skipped (Timing raw) = 27
steps_left skipped Asking = 26
steps_left skipped (Window write) = 25
steps_left skipped (ReleaseTiming write) = 16
steps_left skipped (Sending write) = 24
steps_left skipped (WaitWrite write) = 16 + (7 - skipped)
steps_left skipped ReadTiming = 15
steps_left skipped ReadAsking = 14
steps_left skipped (ReadWindow read) = 13
steps_left skipped (SendingRead read) = 12
steps_left skipped (WaitRead read) = 4 + (7 - skipped)
steps_left skipped (SawTiming read raw) = 3
steps_left skipped SawAsking = 2
steps_left skipped Closing = 2
steps_left skipped (UnfitClosing point wanted found) = 1
steps_left skipped Resting = 1
steps_left skipped (Over end) = 0

-- so many readings of the clock
abbrev pub clock_left : Step → ℕ
clock_left Ready = 0
clock_left Aiming = 6
clock_left (Dialing raw) = 6
clock_left (LinkTiming raw) = 6
clock_left (Linking raw) = 5
clock_left (Timing raw) = 5
clock_left Asking = 4
clock_left (Window write) = 4
clock_left (ReleaseTiming write) = 3
clock_left (Sending write) = 3
clock_left (WaitWrite write) = 3
clock_left ReadTiming = 3
clock_left ReadAsking = 2
clock_left (ReadWindow read) = 2
clock_left (SendingRead read) = 1
clock_left (WaitRead read) = 1
clock_left (SawTiming read raw) = 1
clock_left SawAsking = 0
clock_left Closing = 0
clock_left (UnfitClosing point wanted found) = 0
clock_left Resting = 0
clock_left (Over end) = 0

-- and so many requests
abbrev pub requests_left : Step → ℕ
requests_left Ready = 0
requests_left Aiming = 2
requests_left (Dialing raw) = 2
requests_left (LinkTiming raw) = 2
requests_left (Linking raw) = 2
requests_left (Timing raw) = 2
requests_left Asking = 2
requests_left (Window write) = 2
requests_left (ReleaseTiming write) = 1
requests_left (Sending write) = 1
requests_left (WaitWrite write) = 1
requests_left ReadTiming = 1
requests_left ReadAsking = 1
requests_left (ReadWindow read) = 1
requests_left (SendingRead read) = 0
requests_left (WaitRead read) = 0
requests_left (SawTiming read raw) = 0
requests_left SawAsking = 0
requests_left Closing = 0
requests_left (UnfitClosing point wanted found) = 0
requests_left Resting = 0
requests_left (Over end) = 0

-- what a step has, where it may begin a turn
abbrev pub steps_at : ℕ → Step → ℕ
steps_at skipped Ready = 32
steps_at skipped step = steps_left skipped step

abbrev pub clock_at : Step → ℕ
clock_at Ready = 6
clock_at step = clock_left step

abbrev pub requests_at : Step → ℕ
requests_at Ready = 2
requests_at step = requests_left step

-- what a row takes
pub record Takes (state : State) (step : Step) (came : Input) (next : State) (output : Output) : Type 0 where
  pub steps : 1 + steps_left next.skipped next.step ≤ steps_at state.skipped step
  pub clock : length (reading_in came) + clock_left next.step ≤ clock_at step
  pub requests : length (sends_of output) + requests_left next.step ≤ requests_at step

abbrev pub TakesFew : Job → State → Step → Input → Option (State × Output) → Type 0
TakesFew job state step came None = Unit {0}
TakesFew job state step came (Some row) = Takes state step came row.0 row.1

either : (job : Job) (state : State) (step : Step) (came : Input) (b : Bool) (x y : Option (State × Output))
    → (b ≡ true → TakesFew job state step came x) → (b ≡ false → TakesFew job state step came y)
    → TakesFew job state step came (cond b x y)
either job state step came true x y p q = p refl
either job state step came false x y p q = q refl

other_of_write : (job : Job) (state : State) (write : writes.Write) (frame : Frame)
    → TakesFew job state (WaitWrite write) (input.Frame frame) (other_frame_row state (WaitWrite write))
other_of_write job state write frame =
    either job state (WaitWrite write) (input.Frame frame) (ltb state.skipped 7) _ _
    (λ below. record {
      steps = omega (arith, ltb-true state.skipped 7 below);
      clock = omega arith;
      requests = omega arith;
    })
    (λ _. either job state (WaitWrite write) (input.Frame frame) (eqb state.skipped 7) _ _
    (λ _. record { steps = omega arith; clock = omega arith; requests = omega arith }) (λ _. tt))

other_of_read : (job : Job) (state : State) (read : reads.Read) (frame : Frame)
    → TakesFew job state (WaitRead read) (input.Frame frame) (other_frame_row state (WaitRead read))
other_of_read job state read frame =
    either job state (WaitRead read) (input.Frame frame) (ltb state.skipped 7) _ _
    (λ below. record {
      steps = omega (arith, ltb-true state.skipped 7 below);
      clock = omega arith;
      requests = omega arith;
    })
    (λ _. either job state (WaitRead read) (input.Frame frame) (eqb state.skipped 7) _ _
    (λ _. record { steps = omega arith; clock = omega arith; requests = omega arith }) (λ _. tt))

judging : (job : Job) (state : State) (read : reads.Read) (frame : Frame) (judged : Judged)
    → TakesFew job state (WaitRead read) (input.Frame frame) (judgement_row state read judged)
judging job state read frame (Shows raw) =
    record { steps = omega arith; clock = omega arith; requests = omega arith }
judging job state read frame (Differs point wanted found) =
    record { steps = omega arith; clock = omega arith; requests = omega arith }
judging job state read frame (WrongNumber number) = other_of_read job state read frame
judging job state read frame (WrongUnit unit) =
    record { steps = omega arith; clock = omega arith; requests = omega arith }
judging job state read frame (Exception code) =
    record { steps = omega arith; clock = omega arith; requests = omega arith }
judging job state read frame WrongReply =
    record { steps = omega arith; clock = omega arith; requests = omega arith }

rows : (job : Job) (state : State) (step : Step) (came : Input)
    → TakesFew job state step came (row job state step came)
rows job state Ready input.NoRoom =
    record { steps = omega arith; clock = omega arith; requests = omega arith }
rows job state Ready input.Go =
    either job state Ready input.Go (eqb state.turns 0) _ _
    (λ _. record { steps = omega arith; clock = omega arith; requests = omega arith })
    (λ _. record { steps = omega arith; clock = omega arith; requests = omega arith })
rows job state Aiming (input.Goal goal) =
    either job state Aiming (input.Goal goal) goal.stop _ _
    (λ _. record { steps = omega arith; clock = omega arith; requests = omega arith })
    (λ _. either job state Aiming (input.Goal goal) state.up _ _ (λ _. record { steps = omega arith; clock = omega arith; requests = omega arith })
    (λ _. record { steps = omega arith; clock = omega arith; requests = omega arith }))
rows job state (Dialing raw) input.DialFailed =
    record { steps = omega arith; clock = omega arith; requests = omega arith }
rows job state (Dialing raw) input.Dialed =
    record { steps = omega arith; clock = omega arith; requests = omega arith }
rows job state (LinkTiming raw) (input.Time c) =
    record { steps = omega arith; clock = omega arith; requests = omega arith }
rows job state (Linking raw) (input.Reply (reply.Linked number)) =
    record { steps = omega arith; clock = omega arith; requests = omega arith }
rows job state (Linking raw) input.Full =
    record { steps = omega arith; clock = omega arith; requests = omega arith }
rows job state (Timing raw) (input.Time c) =
    either job state (Timing raw) (input.Time c) (due job state.last c raw) _ _
    (λ _. record { steps = omega arith; clock = omega arith; requests = omega arith })
    (λ _. record { steps = omega arith; clock = omega arith; requests = omega arith })
rows job state Asking (input.Reply (reply.Granted write)) =
    record { steps = omega arith; clock = omega arith; requests = omega arith }
rows job state Asking (input.Reply reply.Spent) =
    record { steps = omega arith; clock = omega arith; requests = omega arith }
rows job state Asking (input.Reply _) =
    record { steps = omega arith; clock = omega arith; requests = omega arith }
rows job state Asking input.Full =
    record { steps = omega arith; clock = omega arith; requests = omega arith }
rows job state (Window write) (input.Time c) =
    either job state (Window write) (input.Time c) (in_window job write c) _ _
    (λ _. record { steps = omega arith; clock = omega arith; requests = omega arith })
    (λ _. record { steps = omega arith; clock = omega arith; requests = omega arith })
rows job state (ReleaseTiming write) (input.Reply _) =
    record { steps = omega arith; clock = omega arith; requests = omega arith }
rows job state (ReleaseTiming write) input.Full =
    record { steps = omega arith; clock = omega arith; requests = omega arith }
rows job state (Sending write) input.SentAll =
    record { steps = omega arith; clock = omega arith; requests = omega arith }
rows job state (Sending write) input.SendFailed =
    record { steps = omega arith; clock = omega arith; requests = omega arith }
rows job state (WaitWrite write) (input.Frame frame) =
    either job state (WaitWrite write) (input.Frame frame) (eqb frame.transaction write.number) _ _
    (λ _. record { steps = omega arith; clock = omega arith; requests = omega arith })
    (λ _. other_of_write job state write frame)
rows job state (WaitWrite write) input.Quiet =
    record { steps = omega arith; clock = omega arith; requests = omega arith }
rows job state (WaitWrite write) input.Closed =
    record { steps = omega arith; clock = omega arith; requests = omega arith }
rows job state (WaitWrite write) input.RecvFailed =
    record { steps = omega arith; clock = omega arith; requests = omega arith }
rows job state (WaitWrite write) input.BadFrame =
    record { steps = omega arith; clock = omega arith; requests = omega arith }
rows job state ReadTiming (input.Time c) =
    record { steps = omega arith; clock = omega arith; requests = omega arith }
rows job state ReadAsking (input.Reply (reply.ReadAs read)) =
    record { steps = omega arith; clock = omega arith; requests = omega arith }
rows job state ReadAsking (input.Reply _) =
    record { steps = omega arith; clock = omega arith; requests = omega arith }
rows job state ReadAsking input.Full =
    record { steps = omega arith; clock = omega arith; requests = omega arith }
rows job state (ReadWindow read) (input.Time c) =
    record { steps = omega arith; clock = omega arith; requests = omega arith }
rows job state (SendingRead read) input.SentAll =
    record { steps = omega arith; clock = omega arith; requests = omega arith }
rows job state (SendingRead read) input.SendFailed =
    record { steps = omega arith; clock = omega arith; requests = omega arith }
rows job state (WaitRead read) (input.Frame frame) =
    judging job state read frame (judgement read job.unit job.port job.rules frame)
rows job state (WaitRead read) input.Quiet =
    record { steps = omega arith; clock = omega arith; requests = omega arith }
rows job state (WaitRead read) input.Closed =
    record { steps = omega arith; clock = omega arith; requests = omega arith }
rows job state (WaitRead read) input.RecvFailed =
    record { steps = omega arith; clock = omega arith; requests = omega arith }
rows job state (WaitRead read) input.BadFrame =
    record { steps = omega arith; clock = omega arith; requests = omega arith }
rows job state (SawTiming read raw) (input.Time c) =
    record { steps = omega arith; clock = omega arith; requests = omega arith }
rows job state SawAsking (input.Reply _) =
    record { steps = omega arith; clock = omega arith; requests = omega arith }
rows job state SawAsking input.Full =
    record { steps = omega arith; clock = omega arith; requests = omega arith }
rows job state Closing input.HungUp =
    record { steps = omega arith; clock = omega arith; requests = omega arith }
rows job state (UnfitClosing point wanted found) input.HungUp =
    record { steps = omega arith; clock = omega arith; requests = omega arith }
rows job state Resting input.Rested =
    record { steps = omega arith; clock = omega arith; requests = omega arith }
rows job state step came = tt

-- within a turn a step has what is left
pub steps_same : (skipped : ℕ) (step : Step) → step ≢ Ready → steps_at skipped step ≡ steps_left skipped step
steps_same skipped Ready within = absurd (within refl)
steps_same skipped _ within = refl

pub clock_same : (step : Step) → step ≢ Ready → clock_at step ≡ clock_left step
clock_same Ready within = absurd (within refl)
clock_same _ within = refl

pub requests_same : (step : Step) → step ≢ Ready → requests_at step ≡ requests_left step
requests_same Ready within = absurd (within refl)
requests_same _ within = refl

-- a step has no more than a whole turn
steps_most : (skipped : ℕ) (step : Step) → steps_at skipped step ≤ 32
steps_most skipped (WaitWrite write) = omega arith
steps_most skipped (WaitRead read) = omega arith
steps_most skipped _ = omega arith

clock_most : (step : Step) → clock_at step ≤ 6
clock_most Ready = omega arith
clock_most _ = omega arith

requests_most : (step : Step) → requests_at step ≤ 2
requests_most Ready = omega arith
requests_most _ = omega arith

-- a run has at most so many steps, readings and requests
record Has (run : List RunStep) (m n k : ℕ) : Type 0 where
  steps : length run ≤ m
  clock : length (readings run) ≤ n
  requests : length (log run) ≤ k

more : (state next : State) (step : Step) (one : RunStep) (later : List RunStep)
    → Takes state step one.input next one.output
    → Has later (steps_left next.skipped next.step) (clock_left next.step) (requests_left next.step)
    → Has (one ∷ later) (steps_at state.skipped step) (clock_at step) (requests_at step)
more state next step one later takes has = record {
  steps = omega (arith, takes.steps, has.steps);
  clock = omega (arith, takes.clock, has.clock, length-append (reading_in one.input) (readings later));
  requests = omega (arith, takes.requests, has.requests, length-append (sends_of one.output) (log later));
}

pub taken : (job : Job) (from : State) (one : RunStep) (next : State)
    → row job from from.step one.input ≡ Some (next, one.output)
    → Takes from from.step one.input next one.output
taken job from one next is =
    let P : Option (State × Output) → Type 0 = λ row. TakesFew job from from.step one.input row in
    subst P is (rows job from from.step one.input)

within : (job : Job) (from last : State) (run : List RunStep) → LeadsTo job from run last
    → AllByRecursion IsWithinTurn run
    → Has run (steps_left from.skipped from.step) (clock_left from.step) (requests_left from.step)
within job from last [] leads all = record { steps = omega arith; clock = omega arith; requests = omega arith }
within job from last (one ∷ later) leads all =
    let P : State → Type 0 = λ state. state.step ≢ Ready in
    let here : from.step ≢ Ready = subst P leads.0 all.0 in
    let next = leads.1.0 in
    let has = more from next from.step one later (taken job from one next leads.1.1.0)
    (within job next last later leads.1.1.1 all.1) in
    record {
      steps = omega (arith, has.steps, steps_same from.skipped from.step here);
      clock = omega (arith, has.clock, clock_same from.step here);
      requests = omega (arith, has.requests, requests_same from.step here);
    }

pub short : (job : Job) (from last : State) (first : RunStep) (later : List RunStep) → LeadsTo job from
    (first ∷ later) last
    → AllByRecursion IsWithinTurn later → IsShort (first ∷ later)
short job from last first later leads all =
    let next = leads.1.0 in
    let has = more from next from.step first later (taken job from first next leads.1.1.0)
    (within job next last later leads.1.1.1 all) in
    record {
      steps = omega (arith, has.steps, steps_most from.skipped from.step);
      clock = omega (arith, has.clock, clock_most from.step);
      requests = omega (arith, has.requests, requests_most from.step);
    }
