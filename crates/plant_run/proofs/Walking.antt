-- The way through a turn.
use Rattle.std.proofs.Common.{◌≡◌, ◌≢◌, ℕ, ◌+◌, false, List, [], ◌∷◌, length, refl, subst}
use Rattle.std.specs.List.{AllByRecursion}
use Rattle.ledger_desk.specs.Desk.{GoalTest}
use Rattle.inverter_worker.specs.declared.job.Job.{Job}
use Rattle.inverter_worker.specs.declared.input.Input.{Input}
use Rattle.inverter_worker.specs.declared.input.Input.TheVariants as input
use Rattle.inverter_worker.specs.declared.output.Output.{Output}
use Rattle.inverter_worker.specs.declared.output.Output.TheVariants as output
use Rattle.inverter_worker.specs.declared.state.State.{State}
use Rattle.inverter_worker.specs.declared.state.Step.{Step}
use Rattle.inverter_worker.specs.declared.state.Step.TheVariants.{Ready}
use Rattle.inverter_worker.specs.Runs.{RunStep, LeadsTo}
use Rattle.inverter_worker.specs.Turns.{IsWithinTurn}
use Rattle.worker_turn.specs.Doing.{World, IsDone, AreDone}
use Rattle.worker_turn.specs.Acts.{is_last, Stands}
use Rattle.worker_turn.specs.Turning.{pending}
use Rattle.worker_turn.specs.Agreeing.{made_by, calls_made}
use Rattle.worker_turn.proofs.Rows.{IsNotGoal, Led, led}
use Rattle.worker_turn.proofs.Going.{no_goal_of_wait}
use Rattle.plant_run.specs.Works.{IsToldAt, AreTold}
use Rattle.plant_run.proofs.Seeing.{IsOwn, makes_own, made_own, all_joined}

-- no goal came
abbrev pub IsNoGoal : Input → Type 0
IsNoGoal (input.Goal goal) = ⊥
IsNoGoal came = Unit {0}

abbrev pub NoGoals : List RunStep → Type 0
NoGoals later = AllByRecursion (λ one. IsNoGoal one.input) later

abbrev pub NoGoalsBehind : List RunStep → Type 0
NoGoalsBehind [] = Unit {0}
NoGoalsBehind (one ∷ later) = NoGoals later

no_goal : (job : Job) (put : Output) (came : Input) (old new : World) → IsDone job put came old new → IsNotGoal put → IsNoGoal came
no_goal job output.Goal came old new done not = absurd not
no_goal job output.Receive (input.Goal goal) old new done not = absurd (no_goal_of_wait goal done.1.result done.1.is)
no_goal job put (input.Goal goal) old new done not = absurd done
no_goal job put came old new done not = tt

-- within a turn there is an output to be done
going : (job : Job) (step : Step) (put : Output) (came : Input) (old new : World) → step ≢ Ready → Stands job step put → IsDone job put came old new
    → is_last put ≡ false
going job step output.End came old new not stands done = absurd done
going job Ready output.Nothing came old new not stands done = absurd (not refl)
going job step output.Nothing came old new not stands done = absurd stands
going job step put came old new not stands done = refl

-- steps of a turn that were done: by the worker's own calls, up to where it stands, with one goal at most
pub record Walk (job : Job) (put : Output) (later : List RunStep) (last : State) : Type 0 where
  pub own : AllByRecursion (IsOwn job.inverter) (calls_made put later)
  pub stands : Stands job last.step (pending put later)
  pub goals : IsNotGoal put → NoGoals later
  pub behind : NoGoalsBehind later

pub walk : (job : Job) (put : Output) (from : State) (later : List RunStep) (last : State) (old new : World) → Stands job from.step put
    → AllByRecursion IsWithinTurn later → LeadsTo job from later last → AreDone job put later old new → Walk job put later last
walk job put from [] last old new stands within leads done =
    let P : State → Type 0 = λ state. Stands job state.step put in
    record { own = tt; stands = subst P leads stands; goals = λ _. tt; behind = tt }
walk job put from (one ∷ later) last old new stands within leads done =
    let P : State → Type 0 = λ state. state.step ≢ Ready in
    let next = leads.1.0 in
    let goes = going job from.step put one.input old done.0 (subst P leads.0 within.0) stands done.1 in
    let here : Led job put one.input from.step next one.output = led job from next put one.output one.input old done.0 goes stands done.1 leads.1.1.0 in
    let rest : Walk job one.output later last = walk job one.output next later last done.0 new here.stands within.1 leads.1.1.1 done.2 in
    let own = makes_own job from.step put stands in
    record {
      own = all_joined (IsOwn job.inverter) (made_by put one.input) (calls_made one.output later) (made_own job put one.input own) rest.own;
      stands = rest.stands;
      goals = λ not. (no_goal job put one.input old done.0 done.1 not, rest.goals here.later);
      behind = rest.goals here.later;
    }

-- where no goal came, a full book alone has to be told
abbrev pub IsFullTold : (was_full : Type 0) → Input → Type 0
IsFullTold was_full input.Full = was_full
IsFullTold was_full came = Unit {0}

told_one : (may_tell : GoalTest) (was_full : Type 0) (inverter made : ℕ) (came : Input) → IsNoGoal came → IsFullTold was_full came
    → IsToldAt may_tell was_full inverter made came
told_one may_tell was_full inverter made (input.Goal goal) none full = absurd none
told_one may_tell was_full inverter made input.Full none full = full
told_one may_tell was_full inverter made _ none full = tt

pub told_rest : (may_tell : GoalTest) (was_full : Type 0) (inverter : ℕ) (put : Output) (later : List RunStep) (made : ℕ) → NoGoals later
    → AllByRecursion (λ one. IsFullTold was_full one.input) later → AreTold may_tell was_full inverter put later made
told_rest may_tell was_full inverter put [] made none full = tt
told_rest may_tell was_full inverter put (one ∷ later) made none full = (
  told_one may_tell was_full inverter made one.input none.0 full.0,
  told_rest may_tell was_full inverter one.output later (made + length (made_by put one.input)) none.1 full.1,
)
