-- Each request that the ledger numbers is sent or given back, in order.
use Rattle.std.proofs.Common.{◌≡◌, Bool, true, false, cond, ltb, eqb, List, [], ◌∷◌, ◌++◌, Option, Some, None, refl, sym, ◌∙◌, ap, subst, append_assoc}
use Rattle.std.proofs.lemmas.List.{append-nil}
use Rattle.mbap_frames.specs.declared.frame.Frame.{Frame}
use Rattle.plant_book.specs.declared.call.Read as reads
use Rattle.plant_book.specs.declared.call.Reply.TheVariants as reply
use Rattle.readback.specs.declared.judging.Judged.{Judged}
use Rattle.readback.specs.declared.judging.Judged.TheVariants.{WrongNumber, WrongUnit, Exception, WrongReply, Differs, Shows}
use Rattle.readback.specs.Judging.{judgement}
use Rattle.inverter_worker.specs.declared.job.Job.{Job}
use Rattle.inverter_worker.specs.declared.input.Input.{Input}
use Rattle.inverter_worker.specs.declared.input.Input.TheVariants as input
use Rattle.inverter_worker.specs.declared.output.Asked.{Asked}
use Rattle.inverter_worker.specs.declared.output.Output.{Output}
use Rattle.inverter_worker.specs.declared.state.State.{State}
use Rattle.inverter_worker.specs.declared.state.Step.{Step}
use Rattle.inverter_worker.specs.declared.state.Step.TheVariants.{Ready, Aiming, Dialing, LinkTiming, Linking, Timing, Asking, Window, ReleaseTiming, Sending, WaitWrite, ReadTiming, ReadAsking, ReadWindow, SendingRead, WaitRead, SawTiming, SawAsking, Closing, UnfitClosing, Resting, Over}
use Rattle.inverter_worker.specs.States.{due, in_window}
use Rattle.inverter_worker.specs.Table.{row, judgement_row}
use Rattle.inverter_worker.specs.Runs.{RunStep, LeadsTo}
use Rattle.inverter_worker.specs.Requests.{requests_in, requests_out, request_next, requests_numbered, requests_done}

-- a row does what is next, and makes next what was numbered
abbrev pub KeepsRequests : Job → Step → Input → Option (State × Output) → Type 0
KeepsRequests job step came None = Unit {0}
KeepsRequests job step came (Some row) =
    request_next step ++ requests_in step came ≡ requests_out row.1 ++ request_next row.0.step

either : (job : Job) (step : Step) (came : Input) (b : Bool) (x y : Option (State × Output))
    → KeepsRequests job step came x → KeepsRequests job step came y → KeepsRequests job step came (cond b x y)
either job step came true x y p q = p
either job step came false x y p q = q

judging : (job : Job) (state : State) (read : reads.Read) (frame : Frame) (judged : Judged)
    → KeepsRequests job (WaitRead read) (input.Frame frame) (judgement_row state read judged)
judging job state read frame (Shows raw) = refl
judging job state read frame (Differs point wanted found) = refl
judging job state read frame (WrongNumber number) =
    either job (WaitRead read) (input.Frame frame) (ltb state.skipped 7) _ _ refl
    (either job (WaitRead read) (input.Frame frame) (eqb state.skipped 7) _ _ refl tt)
judging job state read frame (WrongUnit unit) = refl
judging job state read frame (Exception code) = refl
judging job state read frame WrongReply = refl

rows : (job : Job) (state : State) (step : Step) (came : Input) → KeepsRequests job step came (row job state step came)
rows job state Ready input.NoRoom = refl
rows job state Ready input.Go =
    either job Ready input.Go (eqb state.turns 0) _ _ refl refl
rows job state Aiming (input.Goal goal) =
    either job Aiming (input.Goal goal) goal.stop _ _ refl
    (either job Aiming (input.Goal goal) state.up _ _ refl refl)
rows job state (Dialing raw) input.DialFailed = refl
rows job state (Dialing raw) input.Dialed = refl
rows job state (LinkTiming raw) (input.Time c) = refl
rows job state (Linking raw) (input.Reply (reply.Linked number)) = refl
rows job state (Linking raw) input.Full = refl
rows job state (Timing raw) (input.Time c) =
    either job (Timing raw) (input.Time c) (due job state.last c raw) _ _ refl refl
rows job state Asking (input.Reply (reply.Granted write)) = refl
rows job state Asking (input.Reply reply.Spent) = refl
rows job state Asking (input.Reply _) = refl
rows job state Asking input.Full = refl
rows job state (Window write) (input.Time c) =
    either job (Window write) (input.Time c) (in_window job write c) _ _ refl refl
rows job state (ReleaseTiming write) (input.Reply _) = refl
rows job state (ReleaseTiming write) input.Full = refl
rows job state (Sending write) input.SentAll = refl
rows job state (Sending write) input.SendFailed = refl
rows job state (WaitWrite write) (input.Frame frame) =
    either job (WaitWrite write) (input.Frame frame) (eqb frame.transaction write.number) _ _ refl
    (either job (WaitWrite write) (input.Frame frame) (ltb state.skipped 7) _ _ refl
    (either job (WaitWrite write) (input.Frame frame) (eqb state.skipped 7) _ _ refl tt))
rows job state (WaitWrite write) input.Quiet = refl
rows job state (WaitWrite write) input.Closed = refl
rows job state (WaitWrite write) input.RecvFailed = refl
rows job state (WaitWrite write) input.BadFrame = refl
rows job state ReadTiming (input.Time c) = refl
rows job state ReadAsking (input.Reply (reply.ReadAs read)) = refl
rows job state ReadAsking (input.Reply _) = refl
rows job state ReadAsking input.Full = refl
rows job state (ReadWindow read) (input.Time c) = refl
rows job state (SendingRead read) input.SentAll = refl
rows job state (SendingRead read) input.SendFailed = refl
rows job state (WaitRead read) (input.Frame frame) =
    judging job state read frame (judgement read job.unit job.port job.rules frame)
rows job state (WaitRead read) input.Quiet = refl
rows job state (WaitRead read) input.Closed = refl
rows job state (WaitRead read) input.RecvFailed = refl
rows job state (WaitRead read) input.BadFrame = refl
rows job state (SawTiming read raw) (input.Time c) = refl
rows job state SawAsking (input.Reply _) = refl
rows job state SawAsking input.Full = refl
rows job state Closing input.HungUp = refl
rows job state (UnfitClosing point wanted found) input.HungUp = refl
rows job state Resting input.Rested = refl
rows job state step came = tt

step_more : (a b c d e f g : List Asked) → a ++ b ≡ c ++ d → d ++ e ≡ f ++ g → a ++ (b ++ e) ≡ (c ++ f) ++ g
step_more a b c d e f g here later =
    sym (append_assoc a b e) ∙ ap (λ (xs : List Asked). xs ++ e) here ∙ append_assoc c d e
    ∙ ap (λ (xs : List Asked). c ++ xs) later ∙ sym (append_assoc c f g)

pub requests_kept : (job : Job) (from last : State) (run : List RunStep) → LeadsTo job from run last
    → request_next from.step ++ requests_numbered run ≡ requests_done run ++ request_next last.step
requests_kept job from last [] leads =
    let P : State → Type 0 = λ state. request_next from.step ++ [] ≡ request_next state.step in
    subst P leads (append-nil (request_next from.step))
requests_kept job from last (one ∷ later) leads =
    let next = leads.1.0 in
    let P : Option (State × Output) → Type 0 = λ row. KeepsRequests job from.step one.input row in
    let Q : State → Type 0 = λ state. request_next from.step ++ (requests_in state.step one.input ++ requests_numbered later)
    ≡ (requests_out one.output ++ requests_done later) ++ request_next last.step in
    subst Q (sym leads.0)
    (step_more (request_next from.step) (requests_in from.step one.input) (requests_out one.output) (request_next next.step)
    (requests_numbered later) (requests_done later) (request_next last.step)
    (subst P leads.1.1.0 (rows job from from.step one.input)) (requests_kept job next last later leads.1.1.1))
