-- The way through a turn. Promises to a caller name `pending` alone of this.
use Rattle.std.specs.Prelude.{◌≡◌, ℕ, Bool, List, length, [], ◌∷◌, ◌++◌, Some}
use Rattle.std.specs.List.{AllByRecursion}
use Rattle.ledger_desk.specs.Desk.{DeskTests}
use Rattle.inverter_worker.specs.declared.job.Job.{Job}
use Rattle.inverter_worker.specs.declared.input.Input.{Input}
use Rattle.inverter_worker.specs.declared.output.Output.{Output}
use Rattle.inverter_worker.specs.declared.output.Output.TheVariants as output
use Rattle.inverter_worker.specs.declared.output.Sent.{Sent}
use Rattle.inverter_worker.specs.declared.state.State.{State}
use Rattle.inverter_worker.specs.declared.state.End.TheVariants as over
use Rattle.inverter_worker.specs.declared.state.Step.TheVariants.{Over}
use Rattle.inverter_worker.specs.Table.{table}
use Rattle.inverter_worker.specs.Runs.{RunStep, LeadsTo, log}
use Rattle.inverter_worker.specs.Turns.{IsWithinTurn, readings}
use Rattle.worker_turn.specs.Doing.{World, AreDoneOn}
use Rattle.worker_turn.specs.Desks.{IsTold}
use Rattle.worker_turn.specs.Worker.{IsBetweenTurns}
use Rattle.worker_turn.specs.Acts.{Stands}

-- the last of these outputs
abbrev pub pending : Output → List RunStep → Output
pending output [] = output
pending output (one ∷ later) = pending one.output later

-- the goal is asked for before anything else is done
abbrev pub IsFresh : Output → World → World → Type 0
IsFresh output.Goal old new = new ≡ old
IsFresh output old new = Unit {0}

-- These steps followed on an output, from a state to a state, and what they put out was done, but for the
-- last.
pub record Follows (shares : Bool) (tests : DeskTests) (front front_now : ℕ) (job : Job) (begun : State)
    (first : Output)
    (later : List RunStep) (state : State) (last : Output) (logged log_now : List Sent) (old new : World)
    : Type 0 where
  pub within : AllByRecursion IsWithinTurn later
  pub leads : LeadsTo job begun later state
  pub pending : last ≡ pending first later
  pub done : AreDoneOn shares job first later old new
  pub log : log_now ≡ logged ++ log later
  pub readings : new.readings ≡ old.readings ++ readings later
  pub told : AllByRecursion (λ one.
      IsTold tests job.inverter (length old.made) front front_now one.input) later
  pub stands : Stands job state.step last
  pub fresh : IsFresh last old new
  pub reached : (from : State) × (came : Input) × (table job from came ≡ Some (state, last))
  pub memory : state.step ≡ Over over.NoMemory → later ≡ []

-- The rest of a turn, from its first output on.
pub record GoesOn (shares : Bool) (tests : DeskTests) (front front_now : ℕ) (job : Job) (begun : State)
    (first : Output) (state : State)
    (logged log_now : List Sent) (old new : World) : Type 0 where
  pub later : List RunStep
  pub last : Output
  pub follows : Follows shares tests front front_now job begun first later state last logged log_now old new
  pub over : IsBetweenTurns state.step
