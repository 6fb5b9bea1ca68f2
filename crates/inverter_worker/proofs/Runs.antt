-- Runs of the table.
use Rattle.std.proofs.Common.{◌≡◌, Bool, true, false, cond, ltb, eqb, List, [], ◌∷◌, ◌++◌, Option, Some, None, refl, sym, subst}
use Rattle.std.specs.List.{AllByRecursion}
use Rattle.plant_book.specs.declared.call.Read as reads
use Rattle.plant_book.specs.declared.call.Reply.TheVariants as reply
use Rattle.readback.specs.declared.judging.Judged.{Judged}
use Rattle.readback.specs.declared.judging.Judged.TheVariants.{WrongNumber}
use Rattle.readback.specs.Judging.{judgement}
use Rattle.inverter_worker.specs.declared.job.Job.{Job}
use Rattle.inverter_worker.specs.declared.input.Input.{Input}
use Rattle.inverter_worker.specs.declared.input.Input.TheVariants as input
use Rattle.inverter_worker.specs.declared.output.Output.{Output}
use Rattle.inverter_worker.specs.declared.output.Sent.{Sent}
use Rattle.inverter_worker.specs.declared.state.State.{State}
use Rattle.inverter_worker.specs.declared.state.Step.{Step}
use Rattle.inverter_worker.specs.declared.state.Step.TheVariants.{Ready, Aiming, Dialing, LinkTiming, Linking, Timing, Asking, Window, ReleaseTiming, Sending, WaitWrite, ReadTiming, ReadAsking, ReadWindow, SendingRead, WaitRead, SawTiming, SawAsking, Closing, UnfitClosing, Resting}
use Rattle.inverter_worker.specs.States.{due, in_window}
use Rattle.inverter_worker.specs.Table.{row, table, other_frame_row, judgement_row}
use Rattle.inverter_worker.specs.Runs.{RunStep, LeadsTo, log, sends_of, IsInTime}

pub LeadsTo-append : (job : Job) (from middle last : State) (run later : List RunStep)
    → LeadsTo job from run middle → LeadsTo job middle later last → LeadsTo job from (run ++ later) last
LeadsTo-append job from middle last [] later before behind =
    let P : State → Type 0 = λ state. LeadsTo job state later last in subst P (sym before) behind
LeadsTo-append job from middle last (one ∷ run) later before behind =
    (before.0, (before.1.0, (before.1.1.0, LeadsTo-append job before.1.0 middle last run later before.1.1.1 behind)))

pub LeadsTo-push : (job : Job) (from state next : State) (run : List RunStep) (came : Input) (output : Output)
    → LeadsTo job from run state → table job state came ≡ Some (next, output)
    → LeadsTo job from (run ++ record { state = state; input = came; output = output } ∷ []) next
LeadsTo-push job from state next run came output before is =
    LeadsTo-append job from state next run _ before (refl, (next, (is, refl)))

-- a row sends a write within its send window alone
abbrev pub SendsInTime : Job → Option (State × Output) → Type 0
SendsInTime job None = Unit {0}
SendsInTime job (Some row) = AllByRecursion (IsInTime job) (sends_of row.1)

either : (job : Job) (b : Bool) (x y : Option (State × Output)) → (b ≡ true → SendsInTime job x)
    → SendsInTime job y → SendsInTime job (cond b x y)
either job true x y p q = p refl
either job false x y p q = q

passing_over : (job : Job) (state : State) (step : Step) → SendsInTime job (other_frame_row state step)
passing_over job state step =
    either job (ltb state.skipped 7) _ _ (λ _. tt) (either job (eqb state.skipped 7) _ _ (λ _. tt) tt)

judging : (job : Job) (state : State) (read : reads.Read) (judged : Judged)
    → SendsInTime job (judgement_row state read judged)
judging job state read (WrongNumber number) = passing_over job state (WaitRead read)
judging job state read _ = tt

rows : (job : Job) (state : State) (step : Step) (came : Input) → SendsInTime job (row job state step came)
rows job state Ready input.NoRoom = tt
rows job state Ready input.Go = either job (eqb state.turns 0) _ _ (λ _. tt) tt
rows job state Aiming (input.Goal goal) = either job goal.stop _ _ (λ _. tt) (either job state.up _ _ (λ _. tt) tt)
rows job state (Dialing raw) input.DialFailed = tt
rows job state (Dialing raw) input.Dialed = tt
rows job state (LinkTiming raw) (input.Time c) = tt
rows job state (Linking raw) (input.Reply (reply.Linked number)) = tt
rows job state (Linking raw) input.Full = tt
rows job state (Timing raw) (input.Time c) = either job (due job state.last c raw) _ _ (λ _. tt) tt
rows job state Asking (input.Reply (reply.Granted write)) = tt
rows job state Asking (input.Reply reply.Spent) = tt
rows job state Asking (input.Reply _) = tt
rows job state Asking input.Full = tt
rows job state (Window write) (input.Time c) = either job (in_window job write c) _ _ (λ inside. (inside, tt)) tt
rows job state (ReleaseTiming write) (input.Reply _) = tt
rows job state (ReleaseTiming write) input.Full = tt
rows job state (Sending write) input.SentAll = tt
rows job state (Sending write) input.SendFailed = tt
rows job state (WaitWrite write) (input.Frame frame) =
    either job (eqb frame.transaction write.number) _ _ (λ _. tt) (passing_over job state (WaitWrite write))
rows job state (WaitWrite write) input.Quiet = tt
rows job state (WaitWrite write) input.Closed = tt
rows job state (WaitWrite write) input.RecvFailed = tt
rows job state (WaitWrite write) input.BadFrame = tt
rows job state ReadTiming (input.Time c) = tt
rows job state ReadAsking (input.Reply (reply.ReadAs read)) = tt
rows job state ReadAsking (input.Reply _) = tt
rows job state ReadAsking input.Full = tt
rows job state (ReadWindow read) (input.Time c) = (tt, tt)
rows job state (SendingRead read) input.SentAll = tt
rows job state (SendingRead read) input.SendFailed = tt
rows job state (WaitRead read) (input.Frame frame) = judging job state read
    (judgement read job.unit job.port job.rules frame)
rows job state (WaitRead read) input.Quiet = tt
rows job state (WaitRead read) input.Closed = tt
rows job state (WaitRead read) input.RecvFailed = tt
rows job state (WaitRead read) input.BadFrame = tt
rows job state (SawTiming read raw) (input.Time c) = tt
rows job state SawAsking (input.Reply _) = tt
rows job state SawAsking input.Full = tt
rows job state Closing input.HungUp = tt
rows job state (UnfitClosing point wanted found) input.HungUp = tt
rows job state Resting input.Rested = tt
rows job state step came = tt

all_joined : (P : Sent → Type 0) (xs ys : List Sent) → AllByRecursion P xs → AllByRecursion P ys
    → AllByRecursion P (xs ++ ys)
all_joined P [] ys before behind = behind
all_joined P (x ∷ xs) ys before behind = (before.0, all_joined P xs ys before.1 behind)

-- and so does a run
pub sent_in_time : (job : Job) (from last : State) (run : List RunStep) → LeadsTo job from run last
    → AllByRecursion (IsInTime job) (log run)
sent_in_time job from last [] leads = tt
sent_in_time job from last (one ∷ run) leads =
    let P : Option (State × Output) → Type 0 = λ row. SendsInTime job row in
    all_joined (IsInTime job) (sends_of one.output) (log run) (subst P leads.1.1.0
    (rows job from from.step one.input))
    (sent_in_time job leads.1.0 last run leads.1.1.1)
