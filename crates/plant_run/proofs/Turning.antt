-- One turn of a worker, through any desk.
use Rattle.std.proofs.Common.{◌≡◌, ℕ, ◌+◌, Bool, true, false, cond, eqb, List, [], ◌∷◌, ◌++◌, length, ◌⊎◌, inl, inr, Option, Some, None, refl, sym, ap, subst, arith, append-nil}
use Rattle.std.specs.List.{AllByRecursion}
use Rattle.world_traits.specs.Clocks.{AreGiven}
use Rattle.world_traits.specs.Links.{Links}
use Rattle.plant_book.specs.declared.book.Entry.{Entry}
use Rattle.ledger_desk.specs.Desk.{GoalTest, DeskTests}
use Rattle.inverter_worker.specs.declared.job.Job.{Job}
use Rattle.inverter_worker.specs.declared.input.Input.{Input}
use Rattle.inverter_worker.specs.declared.input.Input.TheVariants as input
use Rattle.inverter_worker.specs.declared.output.Output.{Output}
use Rattle.inverter_worker.specs.declared.output.Output.TheVariants as output
use Rattle.inverter_worker.specs.declared.state.State.{State}
use Rattle.inverter_worker.specs.declared.state.End.{End}
use Rattle.inverter_worker.specs.declared.state.Step.{Step}
use Rattle.inverter_worker.specs.declared.state.Step.TheVariants.{Ready, Over}
use Rattle.inverter_worker.specs.Table.{row}
use Rattle.inverter_worker.specs.Runs.{RunStep}
use Rattle.inverter_worker.specs.Turns.{readings}
use Rattle.worker_turn.specs.Doing.{World, IsDone, AreDone, world_of}
use Rattle.worker_turn.specs.Desks.{IsTold}
use Rattle.worker_turn.specs.declared.worker.Turned.{Turned}
use Rattle.worker_turn.specs.declared.worker.Turned.TheVariants as turned
use Rattle.worker_turn.specs.Worker.{WorkerRecord, Answers, IsBegin, IsBetweenTurns, IsTurn}
use Rattle.worker_turn.specs.Acts.{Stands}
use Rattle.worker_turn.specs.Turning.{pending}
use Rattle.worker_turn.specs.Agreeing.{made_by}
use Rattle.plant_run.specs.Works.{IsToldAt, AreTold, IsAtRest, WorksOn}
use Rattle.plant_run.proofs.Steps.{done_between, idle}
use Rattle.plant_run.proofs.Seeing.{viewed, shifted}
use Rattle.plant_run.proofs.Walking.{Walk, walk, IsFullTold, NoGoalsBehind, told_rest}

pub ready_or_over : (step : Step) → IsBetweenTurns step → (step ≡ Ready) ⊎ ((end : End) × (step ≡ Over end))
ready_or_over Ready rests = inl refl
ready_or_over (Over end) rests = inr (end, refl)
ready_or_over step rests = absurd rests

-- how a turn begins
abbrev StandsRow : Job → Option (State × Output) → Type 0
StandsRow job None = Unit {0}
StandsRow job (Some row) = Stands job row.0.step row.1

either : (job : Job) (b : Bool) (x y : Option (State × Output)) → StandsRow job x → StandsRow job y → StandsRow job (cond b x y)
either job true x y p q = p
either job false x y p q = q

begins : (job : Job) (state : State) (came : Input) → IsBegin came → StandsRow job (row job state Ready came)
begins job state came (inl is) =
    let P : Input → Type 0 = λ came. StandsRow job (row job state Ready came) in subst P (sym is) (either job (eqb state.turns 0) _ _ tt tt)
begins job state came (inr is) = let P : Input → Type 0 = λ came. StandsRow job (row job state Ready came) in subst P (sym is) tt

begun_stands : (job : Job) (state next : State) (came : Input) (put : Output) → IsBegin came → row job state Ready came ≡ Some (next, put)
    → Stands job next.step put
begun_stands job state next came put begin is =
    let P : Option (State × Output) → Type 0 = λ row. StandsRow job row in subst P is (begins job state came begin)

begin_done : (job : Job) (came : Input) (world : World) → IsBegin came → IsDone job output.Nothing came world world
begin_done job came world (inl is) = let P : Input → Type 0 = λ came. IsDone job output.Nothing came world world in subst P (sym is) refl
begin_done job came world (inr is) = let P : Input → Type 0 = λ came. IsDone job output.Nothing came world world in subst P (sym is) refl

begin_told : (may_tell : GoalTest) (was_full : Type 0) (inverter made : ℕ) (came : Input) → IsBegin came → IsToldAt may_tell was_full inverter made came
begin_told may_tell was_full inverter made came (inl is) = let P : Input → Type 0 = λ came. IsToldAt may_tell was_full inverter made came in subst P (sym is) tt
begin_told may_tell was_full inverter made came (inr is) = let P : Input → Type 0 = λ came. IsToldAt may_tell was_full inverter made came in subst P (sym is) tt

-- between two turns nothing is left to be done
pub at_rest : (job : Job) (step : Step) (put : Output) → IsBetweenTurns step → Stands job step put → IsAtRest step put
at_rest job Ready output.Nothing rests stands = refl
at_rest job Ready _ rests stands = absurd stands
at_rest job (Over end) put rests stands = tt
at_rest job step put rests stands = absurd rests

-- what a turn was told is told of its run
module _ (tests : DeskTests) (inverter made begun now : ℕ) where
  told_first : (came : Input) → IsTold tests inverter made begun now came → IsToldAt tests.may_tell tests.was_full inverter made came
  told_first (input.Goal goal) told = (told.0, told.3)
  told_first input.Full told = told
  told_first _ told = tt

  full_one : (came : Input) → IsTold tests inverter made begun now came → IsFullTold tests.was_full came
  full_one input.Full told = told
  full_one _ told = tt

  full_all : (later : List RunStep) → AllByRecursion (λ one. IsTold tests inverter made begun now one.input) later
      → AllByRecursion (λ one. IsFullTold tests.was_full one.input) later
  full_all [] told = tt
  full_all (one ∷ later) told = (full_one one.input told.0, full_all later told.1)

  told_later : (put : Output) (later : List RunStep) → AllByRecursion (λ one. IsTold tests inverter made begun now one.input) later → NoGoalsBehind later
      → AreTold tests.may_tell tests.was_full inverter put later made
  told_later put [] told none = tt
  told_later put (one ∷ later) told none = (
    told_first one.input told.0,
    told_rest tests.may_tell tests.was_full inverter one.output later (made + length (made_by put one.input)) none (full_all later told.1),
  )

module _ (tests : DeskTests) (front front_now : ℕ) (before after : WorkerRecord) (made made_now : List Entry) (links links_now : Option Links)
    (faults faults_now : ℕ) (may_give : ℕ → Bool) (rests_now : IsBetweenTurns after.state.step) (same : after.job ≡ before.job) where
  module _ (read : List ℕ) (given : AreGiven may_give read) (ready : before.state.step ≡ Ready)
      (turn : IsTurn tests front front_now before after (world_of made links faults [] before.unread) (world_of made_now links_now faults_now read after.unread)) where
    abbrev job : Job
    job = before.job

    abbrev was : World
    was = world_of made links faults [] before.unread

    abbrev is_now : World
    is_now = world_of made_now links_now faults_now read after.unread

    stands : Stands job turn.leads.1.0.step turn.first.output
    stands =
        let P : Step → Type 0 = λ step. row job before.state step turn.first.input ≡ Some (turn.leads.1.0, turn.first.output) in
        begun_stands job before.state turn.leads.1.0 turn.first.input turn.first.output turn.begins (subst P ready turn.leads.1.1.0)

    walked : Walk job turn.first.output turn.later after.state
    walked = walk job turn.first.output turn.leads.1.0 turn.later after.state was is_now stands turn.within turn.leads.1.1.1 turn.done

    begun_as : (earlier : List ℕ) → viewed (λ es. es) earlier was ≡ world_of made links faults earlier before.unread
    begun_as earlier = ap (λ (r : List ℕ). world_of made links faults r before.unread) (append-nil earlier)

    now_as : (earlier : List ℕ)
        → viewed (λ es. es) earlier is_now ≡ world_of made_now links_now faults_now (earlier ++ readings (turn.first ∷ turn.later)) after.unread
    now_as earlier = ap (λ (r : List ℕ). world_of made_now links_now faults_now (earlier ++ r) after.unread) turn.readings

    told : AreTold tests.may_tell tests.was_full job.inverter output.Nothing (turn.first ∷ turn.later) (length made)
    told =
        let P : ℕ → Type 0 = λ n. AreTold tests.may_tell tests.was_full job.inverter turn.first.output turn.later n in
        let none : length made ≡ length made + 0 = omega arith in (
          begin_told tests.may_tell tests.was_full job.inverter (length made) turn.first.input turn.begins,
          subst P none (told_later tests job.inverter (length made) front front_now turn.first.output turn.later turn.told walked.behind),
        )

    -- the whole turn, from nothing to be done on
    done : (earlier : List ℕ)
        → AreDone job output.Nothing (turn.first ∷ turn.later) (world_of made links faults earlier before.unread)
        (world_of made_now links_now faults_now (earlier ++ readings (turn.first ∷ turn.later)) after.unread)
    done earlier =
        let first : World = viewed (λ es. es) earlier was in
        done_between job output.Nothing (turn.first ∷ turn.later) _ _ _ _ (begun_as earlier) (now_as earlier)
        (first, begin_done job turn.first.input first turn.begins, shifted earlier job turn.first.output turn.later was is_now turn.done)

    turn_works : WorksOn tests.may_tell tests.was_full may_give job made made_now before after links links_now faults faults_now
    turn_works = record {
      run = turn.first ∷ turn.later;
      job_same = same;
      leads = turn.leads;
      log = turn.log;
      done = done;
      own = walked.own;
      clock = let P : List ℕ → Type 0 = λ r. AreGiven may_give r in subst P turn.readings given;
      told = told;
      rests = at_rest job after.state.step (pending turn.first.output turn.later) rests_now walked.stands;
    }

  -- what came of a turn, or of none
  module _ (read read_now : List ℕ) (given : AreGiven may_give read_now) (rests : IsBetweenTurns before.state.step) (none : read ≡ [])
      (turn : before.state.step ≡ Ready → IsTurn tests front front_now before after (world_of made links faults read before.unread)
      (world_of made_now links_now faults_now read_now after.unread))
      (over : (end : End) → before.state.step ≡ Over end → (after ≡ before)
      × (world_of made_now links_now faults_now read_now after.unread ≡ world_of made links faults read before.unread)) where
    still_works : (after ≡ before) → (world_of made_now links_now faults_now read_now after.unread ≡ world_of made links faults read before.unread)
        → WorksOn tests.may_tell tests.was_full may_give before.job made made_now before after links links_now faults faults_now
    still_works is world =
        let P : WorkerRecord → Type 0 = λ w. WorksOn tests.may_tell tests.was_full may_give before.job made made_now before w links links_now faults faults_now in
        let Q : Option Links → Type 0 = λ l. WorksOn tests.may_tell tests.was_full may_give before.job made made_now before before links l faults faults_now in
        let R : ℕ → Type 0 = λ f. WorksOn tests.may_tell tests.was_full may_give before.job made made_now before before links links faults f in
        subst P (sym is) (subst Q (sym (ap (λ (w : World). w.links) world)) (subst R (sym (ap (λ (w : World). w.faults) world))
        (idle tests.may_tell tests.was_full may_give before.job made made_now before links faults refl rests (ap (λ (w : World). w.made) world))))

    pub did : WorksOn tests.may_tell tests.was_full may_give before.job made made_now before after links links_now faults faults_now
    did = by (ready_or_over before.state.step rests)
      where
        by : (before.state.step ≡ Ready) ⊎ ((end : End) × (before.state.step ≡ Over end))
            → WorksOn tests.may_tell tests.was_full may_give before.job made made_now before after links links_now faults faults_now
        by (inl ready) =
            let P : List ℕ → Type 0 = λ r. IsTurn tests front front_now before after (world_of made links faults r before.unread)
            (world_of made_now links_now faults_now read_now after.unread) in
            turn_works read_now given ready (subst P none (turn ready))
        by (inr ended) = let still = over ended.0 ended.1 in still_works still.0 still.1

-- how a turn leaves a worker
pub answers_rest : (answer : Turned) (step : Step) → Answers answer step → IsBetweenTurns step
answers_rest turned.Again step is = let P : Step → Type 0 = λ step. IsBetweenTurns step in subst P (sym is) tt
answers_rest (turned.Over end) step is = let P : Step → Type 0 = λ step. IsBetweenTurns step in subst P (sym is) tt
