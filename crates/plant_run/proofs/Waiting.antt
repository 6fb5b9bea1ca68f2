-- Each wait of a run stands behind a frame that went out whole.
use Rattle.std.proofs.Common.{◌≡◌, Bool, true, false, List, [], ◌∷◌, ◌++◌, refl, sym, ap, subst, ◌∙◌, append-nil}
use Rattle.std.specs.List.{AllByRecursion}
use Rattle.inverter_worker.specs.declared.job.Job.{Job}
use Rattle.inverter_worker.specs.declared.input.Input.{Input}
use Rattle.inverter_worker.specs.declared.input.Input.TheVariants as input
use Rattle.inverter_worker.specs.declared.output.Output.{Output}
use Rattle.inverter_worker.specs.declared.output.Output.TheVariants as output
use Rattle.inverter_worker.specs.declared.output.Asked.TheVariants as asked
use Rattle.inverter_worker.specs.declared.state.State.{State}
use Rattle.inverter_worker.specs.declared.state.Step.{Step}
use Rattle.inverter_worker.specs.declared.state.Step.TheVariants.{Ready, Sending, SendingRead, WaitWrite, WaitRead}
use Rattle.inverter_worker.specs.Runs.{RunStep, LeadsTo}
use Rattle.mbap_frames.specs.declared.frame.Frame.{Frame}
use Rattle.worker_turn.specs.Doing.{request_frame}
use Rattle.plant_run.specs.Acts.{Act, acts, is_dialed, before_links, on_links, Attempt, attempt_in, EndsWhole}
use Rattle.plant_run.proofs.Linking.{before_more, on_more}
use Rattle.plant_run.proofs.Entering.{Fits, Behind, IsNoWait, Waits, kept}

-- Each wait of acts on a link, on which these frames were to be sent before, stands behind a frame that went out whole,
-- which was the last that was to be sent.
abbrev pub WaitsFollow : Job → (before : List Attempt) → List Act → Type 0
WaitsFollow job before [] = Unit {0}
WaitsFollow job before (act ∷ later) = (act.output ≡ output.Receive → EndsWhole before)
    × WaitsFollow job (before ++ attempt_in job act.output act.came) later

-- what a step and its output tell of the frames before it
abbrev Tells : Step → Output → List Attempt → Type 0
Tells (WaitWrite write) put before = EndsWhole before
Tells (WaitRead read) put before = EndsWhole before
Tells step put before = IsNoWait put

whole_before : (step : Step) (put : Output) (before : List Attempt) → Tells step put before → put ≡ output.Receive → EndsWhole before
whole_before (WaitWrite write) put before tells is = tells
whole_before (WaitRead read) put before tells is = tells
whole_before step put before tells is = absurd (subst IsNoWait is tells)

no_attempt : (job : Job) (put : Output) (frame : Frame) → attempt_in job put (input.Frame frame) ≡ []
no_attempt job (output.Send request clock) frame = refl
no_attempt job put frame = refl

same : (job : Job) (put : Output) (frame : Frame) (before : List Attempt) → EndsWhole before → EndsWhole (before ++ attempt_in job put (input.Frame frame))
same job put frame before whole =
    subst EndsWhole (sym (ap (λ (t : List Attempt). before ++ t) (no_attempt job put frame) ∙ append-nil before)) whole

behind : (job : Job) (step : Step) (put : Output) (came : Input) (before : List Attempt) → Fits step put → Tells step put before → Behind step came
    → EndsWhole (before ++ attempt_in job put came)
behind job (Sending write) put input.SentAll before fits tells is =
    subst (λ (o : Output). EndsWhole (before ++ attempt_in job o input.SentAll)) (sym fits.1)
    (record { earlier = before; frame = request_frame job (asked.Write write); is = refl })
behind job (SendingRead read) put input.SentAll before fits tells is =
    subst (λ (o : Output). EndsWhole (before ++ attempt_in job o input.SentAll)) (sym fits.1)
    (record { earlier = before; frame = request_frame job (asked.Read read); is = refl })
behind job (WaitWrite write) put (input.Frame frame) before fits tells is = same job put frame before tells
behind job (WaitRead read) put (input.Frame frame) before fits tells is = same job put frame before tells
behind job step put came before fits tells is = absurd is

next_tells : (job : Job) (step : Step) (put : Output) (came : Input) (next : Step) (put_next : Output) (before : List Attempt) → Fits step put
    → Tells step put before → Waits step came next put_next → Tells next put_next (before ++ attempt_in job put came)
next_tells job step put came (WaitWrite write) put_next before fits tells waits = behind job step put came before fits tells waits
next_tells job step put came (WaitRead read) put_next before fits tells waits = behind job step put came before fits tells waits
next_tells job step put came next put_next before fits tells waits = waits

not_dialed : (step : Step) (came : Input) → Behind step came → is_dialed came ≡ true → EndsWhole []
not_dialed (Sending write) input.SentAll is dialed = absurd cc
not_dialed (SendingRead read) input.SentAll is dialed = absurd cc
not_dialed (WaitWrite write) (input.Frame frame) is dialed = absurd cc
not_dialed (WaitRead read) (input.Frame frame) is dialed = absurd cc
not_dialed step came is dialed = absurd is

-- on a new link
first_tells : (step : Step) (came : Input) (next : Step) (put_next : Output) → is_dialed came ≡ true → Waits step came next put_next → Tells next put_next []
first_tells step came (WaitWrite write) put_next dialed waits = not_dialed step came waits dialed
first_tells step came (WaitRead read) put_next dialed waits = not_dialed step came waits dialed
first_tells step came next put_next dialed waits = waits

pub record Follow (job : Job) (before : List Attempt) (done : List Act) : Type 0 where
  pub here : WaitsFollow job before (before_links done)
  pub later : AllByRecursion (WaitsFollow job []) (on_links done)

one_act : (job : Job) (before : List Attempt) (act : Act) (later : List Act) → (act.output ≡ output.Receive → EndsWhole before)
    → Follow job (before ++ attempt_in job act.output act.came) later → is_dialed act.came ≡ false → Follow job before (act ∷ later)
one_act job before act later whole follow apart =
    let P : List Act → Type 0 = λ t. WaitsFollow job before t in
    let Q : List (List Act) → Type 0 = λ t. AllByRecursion (WaitsFollow job []) t in
    record { here = subst P (sym (before_more act later apart)) (whole, follow.here); later = subst Q (sym (on_more act later apart)) follow.later }

dialed_act : (job : Job) (before : List Attempt) (put : Output) (came : Input) (later : List Act) → is_dialed came ≡ true → Follow job [] later
    → Follow job before (record { output = put; came = came } ∷ later)
dialed_act job before put input.Dialed later dialed follow = record { here = tt; later = (follow.here, follow.later) }
dialed_act job before put came later dialed follow = absurd cc

step : (job : Job) (before : List Attempt) (put : Output) (came : Input) (later : List Act) (b : Bool) → is_dialed came ≡ b
    → (put ≡ output.Receive → EndsWhole before) → (is_dialed came ≡ true → Follow job [] later)
    → Follow job (before ++ attempt_in job put came) later → Follow job before (record { output = put; came = came } ∷ later)
step job before put came later true is whole first follow = dialed_act job before put came later is (first is)
step job before put came later false is whole first follow = one_act job before (record { output = put; came = came }) later whole follow is

follow : (job : Job) (run : List RunStep) (from last : State) (put : Output) (before : List Attempt) → Fits from.step put → Tells from.step put before
    → LeadsTo job from run last → Follow job before (acts put run)
follow job [] from last put before fits tells leads = record { here = tt; later = tt }
follow job (one ∷ run) from last put before fits tells leads =
    let next = leads.1.0 in
    let here = kept job from next one.input one.output leads.1.1.0 in
    step job before put one.input (acts one.output run) (is_dialed one.input) refl (whole_before from.step put before tells)
    (λ dialed. follow job run next last one.output [] here.1 (first_tells from.step one.input next.step one.output dialed here.2) leads.1.1.1)
    (follow job run next last one.output (before ++ attempt_in job put one.input) here.1
    (next_tells job from.step put one.input next.step one.output before fits tells here.2) leads.1.1.1)

pub waits_follow : (job : Job) (from last : State) (run : List RunStep) → from.step ≡ Ready → LeadsTo job from run last
    → AllByRecursion (WaitsFollow job []) (on_links (acts output.Nothing run))
waits_follow job from last run ready leads =
    let P : Step → Type 0 = λ step. Fits step output.Nothing in
    let Q : Step → Type 0 = λ step. Tells step output.Nothing [] in
    (follow job run from last output.Nothing [] (subst P (sym ready) tt) (subst Q (sym ready) tt) leads).later
