-- Where no link is up on which more may come, nothing is sent or received: so the table has it.
use Rattle.std.proofs.Common.{◌≡◌, ℕ, Bool, true, false, cond, eqb, List, [], ◌∷◌, Option, Some, None, refl, sym, subst}
use Rattle.inverter_worker.specs.declared.job.Job.{Job}
use Rattle.inverter_worker.specs.declared.input.Input.{Input}
use Rattle.inverter_worker.specs.declared.input.Input.TheVariants as input
use Rattle.inverter_worker.specs.declared.output.Output.{Output}
use Rattle.inverter_worker.specs.declared.output.Output.TheVariants as output
use Rattle.inverter_worker.specs.declared.state.State.{State}
use Rattle.inverter_worker.specs.declared.state.Step.{Step}
use Rattle.inverter_worker.specs.declared.state.Step.TheVariants.{Ready, Aiming, Dialing, LinkTiming, Linking, Timing, Asking, Window, ReleaseTiming, Sending, WaitWrite, ReadTiming, ReadAsking, ReadWindow, SendingRead, WaitRead, SawTiming, SawAsking, Closing, UnfitClosing, Resting, Over}
use Rattle.inverter_worker.specs.Table.{row}
use Rattle.inverter_worker.specs.Runs.{RunStep, LeadsTo, first_state}
use Rattle.plant_run.specs.Acts.{Act, acts}

-- whether a link is up on which more may be sent or received, after an input
abbrev pub up_after : Bool → Input → Bool
up_after up input.Dialed = true
up_after up input.SendFailed = false
up_after up input.Quiet = false
up_after up input.Closed = false
up_after up input.RecvFailed = false
up_after up input.BadFrame = false
up_after up input.HungUp = false
up_after up came = up

-- such a link is needed for an output
abbrev pub Needs : Output → Bool → Type 0
Needs (output.Send request clock) up = up ≡ true
Needs output.Receive up = up ≡ true
Needs put up = Unit {0}

-- each output of these acts has the link that it needs
abbrev pub HaveNeeds : Bool → List Act → Type 0
HaveNeeds up [] = Unit {0}
HaveNeeds up (act ∷ later) = Needs act.output up × HaveNeeds (up_after up act.came) later

-- what a step tells of it
abbrev Fits : (up : Bool) → Step → (linked : Bool) → Type 0
Fits up Ready linked = linked ≡ true → up ≡ true
Fits up Aiming linked = linked ≡ true → up ≡ true
Fits up (Dialing raw) linked = linked ≡ true → up ≡ true
Fits up Resting linked = linked ≡ true → up ≡ true
Fits up Closing linked = Unit {0}
Fits up (UnfitClosing point wanted found) linked = Unit {0}
Fits up (Over end) linked = Unit {0}
Fits up step linked = up ≡ true

record Kept (up : Bool) (next : State) (put : Output) : Type 0 where
  fits : Fits up next.step next.up
  needs : Needs put up

abbrev Keeps : Bool → Option (State × Output) → Type 0
Keeps up None = Unit {0}
Keeps up (Some row) = Kept up row.0 row.1

either : (up b : Bool) (x y : Option (State × Output)) → (b ≡ true → Keeps up x) → (b ≡ false → Keeps up y) → Keeps up (cond b x y)
either up true x y p q = p refl
either up false x y p q = q refl

-- with such a link each step and each output will do
fits_up : (step : Step) (linked : Bool) → Fits true step linked
fits_up Ready linked = λ _. refl
fits_up Aiming linked = λ _. refl
fits_up (Dialing raw) linked = λ _. refl
fits_up Resting linked = λ _. refl
fits_up Closing linked = tt
fits_up (UnfitClosing point wanted found) linked = tt
fits_up (Over end) linked = tt
fits_up step linked = refl

needs_up : (put : Output) → Needs put true
needs_up (output.Send request clock) = refl
needs_up output.Receive = refl
needs_up put = tt

any_row : (row : Option (State × Output)) → Keeps true row
any_row None = tt
any_row (Some row) = record { fits = fits_up row.0.step row.0.up; needs = needs_up row.1 }

with_link_up : (up : Bool) (row : Option (State × Output)) → up ≡ true → Keeps up row
with_link_up up row is = let P : Bool → Type 0 = λ up. Keeps up row in subst P (sym is) (any_row row)

module _ (job : Job) (state : State) (up : Bool) where
  keeps : (step : Step) (came : Input) → Fits up step state.up → Keeps (up_after up came) (row job state step came)
  keeps Ready input.NoRoom fits = record { fits = tt; needs = tt }
  keeps Ready input.Go fits = either up (eqb state.turns 0) _ _ (λ _. record { fits = tt; needs = tt }) (λ _. record { fits = fits; needs = tt })
  keeps Aiming (input.Goal goal) fits = either up goal.stop _ _ (λ _. record { fits = tt; needs = tt })
      (λ _. either up state.up _ _ (λ is. record { fits = fits is; needs = tt }) (λ _. record { fits = fits; needs = tt }))
  keeps (Dialing raw) input.DialFailed fits = record { fits = fits; needs = tt }
  keeps (Dialing raw) input.Dialed fits = record { fits = refl; needs = tt }
  keeps (LinkTiming raw) (input.Time c) fits = record { fits = fits; needs = tt }
  keeps (Linking raw) (input.Reply answer) fits = with_link_up up (row job state (Linking raw) (input.Reply answer)) fits
  keeps (Linking raw) input.Full fits = record { fits = tt; needs = tt }
  keeps (Timing raw) (input.Time c) fits = with_link_up up (row job state (Timing raw) (input.Time c)) fits
  keeps Asking (input.Reply answer) fits = with_link_up up (row job state Asking (input.Reply answer)) fits
  keeps Asking input.Full fits = record { fits = tt; needs = tt }
  keeps (Window write) (input.Time c) fits = with_link_up up (row job state (Window write) (input.Time c)) fits
  keeps (ReleaseTiming write) (input.Reply answer) fits = record { fits = fits; needs = tt }
  keeps (ReleaseTiming write) input.Full fits = record { fits = tt; needs = tt }
  keeps (Sending write) input.SentAll fits = record { fits = fits; needs = fits }
  keeps (Sending write) input.SendFailed fits = record { fits = tt; needs = tt }
  keeps (WaitWrite write) (input.Frame frame) fits = with_link_up up (row job state (WaitWrite write) (input.Frame frame)) fits
  keeps (WaitWrite write) input.Quiet fits = record { fits = tt; needs = tt }
  keeps (WaitWrite write) input.Closed fits = record { fits = tt; needs = tt }
  keeps (WaitWrite write) input.RecvFailed fits = record { fits = tt; needs = tt }
  keeps (WaitWrite write) input.BadFrame fits = record { fits = tt; needs = tt }
  keeps ReadTiming (input.Time c) fits = record { fits = fits; needs = tt }
  keeps ReadAsking (input.Reply answer) fits = with_link_up up (row job state ReadAsking (input.Reply answer)) fits
  keeps ReadAsking input.Full fits = record { fits = tt; needs = tt }
  keeps (ReadWindow read) (input.Time c) fits = record { fits = fits; needs = fits }
  keeps (SendingRead read) input.SentAll fits = record { fits = fits; needs = fits }
  keeps (SendingRead read) input.SendFailed fits = record { fits = tt; needs = tt }
  keeps (WaitRead read) (input.Frame frame) fits = with_link_up up (row job state (WaitRead read) (input.Frame frame)) fits
  keeps (WaitRead read) input.Quiet fits = record { fits = tt; needs = tt }
  keeps (WaitRead read) input.Closed fits = record { fits = tt; needs = tt }
  keeps (WaitRead read) input.RecvFailed fits = record { fits = tt; needs = tt }
  keeps (WaitRead read) input.BadFrame fits = record { fits = tt; needs = tt }
  keeps (SawTiming read raw) (input.Time c) fits = record { fits = fits; needs = tt }
  keeps SawAsking (input.Reply answer) fits = record { fits = λ _. fits; needs = tt }
  keeps SawAsking input.Full fits = record { fits = tt; needs = tt }
  keeps Closing input.HungUp fits = record { fits = λ linked. linked; needs = tt }
  keeps (UnfitClosing point wanted found) input.HungUp fits = record { fits = tt; needs = tt }
  keeps Resting input.Rested fits = record { fits = fits; needs = tt }
  keeps step came fits = tt

have_needs : (job : Job) (from last : State) (put : Output) (run : List RunStep) (up : Bool) → Fits up from.step from.up → Needs put up
    → LeadsTo job from run last → HaveNeeds up (acts put run)
have_needs job from last put [] up fits needs leads = tt
have_needs job from last put (one ∷ run) up fits needs leads =
    let P : Option (State × Output) → Type 0 = λ row. Keeps (up_after up one.input) row in
    let kept : Kept (up_after up one.input) leads.1.0 one.output = subst P leads.1.1.0 (keeps job from up from.step one.input fits) in
    (needs, have_needs job leads.1.0 last one.output run (up_after up one.input) kept.fits kept.needs leads.1.1.1)

-- a worker begins with no link
pub from_first : (job : Job) (turns : ℕ) (run : List RunStep) (last : State) → LeadsTo job (first_state turns) run last
    → HaveNeeds false (acts output.Nothing run)
from_first job turns run last leads = have_needs job (first_state turns) last output.Nothing run false (λ linked. linked) tt leads
