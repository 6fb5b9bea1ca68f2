-- A worker, and one turn of it.
use Rattle.std.specs.Prelude.{◌≡◌, ◌⊎◌, ℕ, Bool, false, List, [], ◌∷◌, ◌++◌, length}
use Rattle.std.specs.List.{AllByRecursion}
use Rattle.ledger_desk.specs.Desk.{DeskTests}
use Rattle.inverter_worker.specs.declared.job.Job.{Job}
use Rattle.inverter_worker.specs.declared.input.Input.{Input}
use Rattle.inverter_worker.specs.declared.input.Input.TheVariants as input
use Rattle.inverter_worker.specs.declared.output.Sent.{Sent}
use Rattle.inverter_worker.specs.declared.state.State.{State}
use Rattle.inverter_worker.specs.declared.state.Step.{Step}
use Rattle.inverter_worker.specs.declared.state.Step.TheVariants.{Ready, Over}
use Rattle.inverter_worker.specs.Runs.{RunStep, LeadsTo, first_state, log}
use Rattle.inverter_worker.specs.Turns.{IsWithinTurn, readings}
use Rattle.worker_turn.specs.declared.worker.Turned.{Turned}
use Rattle.worker_turn.specs.declared.worker.Turned.TheVariants as turned
use Rattle.worker_turn.specs.Doing.{World, AreDoneOn}
use Rattle.worker_turn.specs.Desks.{IsTold}

-- a worker: its job, where it stands, the requests that it sent so far, and the bytes that came on its link
-- and weren't handed out as frames
pub record WorkerRecord : Type 0 where
  pub job : Job
  pub state : State
  pub log : List Sent
  pub unread : List ℕ

-- a worker before its first turn
abbrev pub new_worker : Job → (turns : ℕ) → WorkerRecord
new_worker job turns = record { job = job; state = first_state turns; log = []; unread = [] }

-- between two turns a worker is ready, or over
abbrev pub IsBetweenTurns : Step → Type 0
IsBetweenTurns Ready = Unit {0}
IsBetweenTurns (Over end) = Unit {0}
IsBetweenTurns step = ⊥

-- what a turn answers: that the worker is ready for another, or how it is over
abbrev pub Answers : Turned → Step → Type 0
Answers turned.Again step = step ≡ Ready
Answers (turned.Over end) step = step ≡ Over end

-- how a turn begins: with room for what it may send, or with none
abbrev pub IsBegin : Input → Type 0
IsBegin came = (came ≡ input.Go) ⊎ (came ≡ input.NoRoom)

-- One turn, on a line that is shared or isn't: a run of the table from the worker's state to its next, whose
-- outputs were done, and whose requests are those that the log has gained. The readings of the clock are the
-- times that came, and the desk, whose front went from one to another, passes the goals and the full book
-- that came.
pub record IsTurnOn (shares : Bool) (tests : DeskTests) (front front_now : ℕ) (before after : WorkerRecord)
    (old new : World) : Type 0 where
  pub first : RunStep
  pub later : List RunStep
  pub begins : IsBegin first.input
  pub within : AllByRecursion IsWithinTurn later
  pub leads : LeadsTo before.job before.state (first ∷ later) after.state
  pub done : AreDoneOn shares before.job first.output later old new
  pub log : after.log ≡ before.log ++ log (first ∷ later)
  pub readings : new.readings ≡ readings (first ∷ later)
  pub told : AllByRecursion (λ one.
      IsTold tests before.job.inverter (length old.made) front front_now one.input) later

-- One turn of a worker, which has a line of its own.
abbrev pub IsTurn : DeskTests → (front front_now : ℕ) → (before after : WorkerRecord) → (old new : World)
    → Type 0
IsTurn tests front front_now before after old new = IsTurnOn false tests front front_now before after old new
