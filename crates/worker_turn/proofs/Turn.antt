-- A whole turn, from its begin.
use Rattle.std.proofs.Common.{◌≡◌, ℕ, ◌≤◌, Bool, List, [], ◌∷◌, ◌++◌, length, inl, inr, Some, refl, sym, ap, ◌∙◌, arith, append-nil}
use Rattle.ledger_desk.specs.Desk.{DeskTests}
use Rattle.inverter_worker.specs.declared.job.Job.{Job}
use Rattle.inverter_worker.specs.declared.input.Input.{Input}
use Rattle.inverter_worker.specs.declared.output.Output.{Output}
use Rattle.inverter_worker.specs.declared.output.Output.TheVariants as output
use Rattle.inverter_worker.specs.declared.output.Sent.{Sent}
use Rattle.inverter_worker.specs.declared.state.State.{State}
use Rattle.inverter_worker.specs.declared.state.End.{End}
use Rattle.inverter_worker.specs.declared.state.End.TheVariants as over
use Rattle.inverter_worker.specs.declared.state.Step.{Step}
use Rattle.inverter_worker.specs.declared.state.Step.TheVariants.{Ready, Aiming, Over}
use Rattle.inverter_worker.specs.Table.{table}
use Rattle.inverter_worker.specs.Runs.{RunStep, log, sends_of}
use Rattle.inverter_worker.specs.Turns.{reading_in, readings, IsShort}
use Rattle.inverter_worker.proofs.Turns.{short}
use Rattle.worker_turn.specs.Doing.{World, AreDoneOn}
use Rattle.worker_turn.specs.declared.worker.Turned.{Turned}
use Rattle.worker_turn.specs.declared.worker.Turned.TheVariants as turned
use Rattle.worker_turn.specs.Worker.{WorkerRecord, Answers, IsBegin, IsBetweenTurns, IsTurnOn}
use Rattle.worker_turn.specs.Acts.{Begins}
use Rattle.worker_turn.specs.Turning.{GoesOn}

no_reading : (came : Input) → IsBegin came → reading_in came ≡ []
no_reading came (inl is) = ap reading_in is
no_reading came (inr is) = ap reading_in is

nothing_sent : (job : Job) (step : Step) (put : Output) → Begins job step put → sends_of put ≡ []
nothing_sent job Aiming output.Goal begins = refl
nothing_sent job (Over end) output.End begins = refl
nothing_sent job _ _ begins = absurd begins

pub whole : (shares : Bool) (tests : DeskTests) (front front_now : ℕ) (before after : WorkerRecord) (begun : State) (put : Output) (came : Input) (old new : World)
    → IsBegin came → table before.job before.state came ≡ Some (begun, put) → Begins before.job begun.step put → old.readings ≡ []
    → GoesOn shares tests front front_now before.job begun put after.state before.log after.log old new
    → IsTurnOn shares tests front front_now before after old new
whole shares tests front front_now before after begun put came old new by is begins none goes =
    let first : RunStep = record { state = before.state; input = came; output = put } in
    let follows = goes.follows in
    record {
      first = first;
      later = goes.later;
      begins = by;
      within = follows.within;
      leads = (refl, (begun, (is, follows.leads)));
      done = follows.done;
      log = follows.log ∙ ap (λ (t : List Sent). before.log ++ (t ++ log goes.later)) (sym (nothing_sent before.job begun.step put begins));
      readings = follows.readings ∙ ap (λ (t : List ℕ). t ++ readings goes.later) none
          ∙ ap (λ (t : List ℕ). t ++ readings goes.later) (sym (no_reading came by));
      told = follows.told;
    }

-- it reads the clock at most 6 times
pub few : (shares : Bool) (tests : DeskTests) (front front_now : ℕ) (before after : WorkerRecord) (old new : World) → IsTurnOn shares tests front front_now before after old new
    → length new.readings ≤ 6
few shares tests front front_now before after old new turn =
    let brief : IsShort (turn.first ∷ turn.later) = short before.job before.state after.state turn.first turn.later turn.leads turn.within in
    omega (arith, brief.clock, ap length turn.readings)

unchanged : (shares : Bool) (job : Job) (put : Output) (later : List RunStep) (old new : World) → later ≡ [] → AreDoneOn shares job put later old new → new ≡ old
unchanged shares job put [] old new none done = done
unchanged shares job put (one ∷ later) old new none done = absurd cc

unlogged : (logged log_now : List Sent) (later : List RunStep) → later ≡ [] → log_now ≡ logged ++ log later → log_now ≡ logged
unlogged logged log_now later none is = is ∙ ap (λ (t : List RunStep). logged ++ log t) none ∙ append-nil logged

-- where it found no memory it did nothing
pub idle : (shares : Bool) (tests : DeskTests) (front front_now : ℕ) (job : Job) (begun state : State) (put : Output) (logged log_now : List Sent) (old new : World)
    → GoesOn shares tests front front_now job begun put state logged log_now old new → state.step ≡ Over over.NoMemory → (log_now ≡ logged) × (new ≡ old)
idle shares tests front front_now job begun state put logged log_now old new goes is =
    let none = goes.follows.memory is in
    (unlogged logged log_now goes.later none goes.follows.log, unchanged shares job put goes.later old new none goes.follows.done)

-- a worker that isn't over is ready
pub between : (step : Step) → IsBetweenTurns step → ((end : End) → step ≡ Over end → ⊥) → step ≡ Ready
between Ready is not = refl
between (Over end) is not = absurd (not end refl)
between _ is not = absurd is

-- a turn after which there is another leaves the worker ready
pub again_ready : (answer : Turned) (step : Step) → Answers answer step → answer ≡ turned.Again → step ≡ Ready
again_ready turned.Again step answers is = answers
again_ready (turned.Over end) step answers is = absurd cc
