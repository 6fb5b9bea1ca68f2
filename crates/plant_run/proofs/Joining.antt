-- What a worker did, and what it did then, as one.
use Rattle.std.proofs.Common.{◌≡◌, ℕ, ◌+◌, Bool, List, [], ◌∷◌, ◌++◌, length, suc, take, ◌⊎◌, inl, inr, Option, refl, sym, ap, subst, ◌∙◌, arith, append_assoc, length-append}
use Rattle.std.proofs.lemmas.List.{take-append-le}
use Rattle.std.specs.Prelude.{IsTrue}
use Rattle.std.specs.List.{AllByRecursion}
use Rattle.std.proofs.lemmas.List.Elements.{All-append}
use Rattle.std.proofs.lemmas.List.Concat.{flat_map-append}
use Rattle.world_traits.specs.Clocks.{AreGiven}
use Rattle.world_traits.specs.Links.{Links}
use Rattle.plant_book.specs.declared.book.Entry.{Entry}
use Rattle.plant_book.specs.Book.{BookRecord}
use Rattle.plant_ledger.specs.declared.plant.Goal.{Goal}
use Rattle.ledger_desk.specs.Desk.{GoalTest}
use Rattle.ledger_desk.specs.Plain.{IsGoalOf}
use Rattle.inverter_worker.specs.declared.job.Job.{Job}
use Rattle.inverter_worker.specs.declared.input.Input.{Input}
use Rattle.inverter_worker.specs.declared.input.Input.TheVariants as input
use Rattle.inverter_worker.specs.declared.output.Output.{Output}
use Rattle.inverter_worker.specs.declared.output.Output.TheVariants as output
use Rattle.inverter_worker.specs.declared.output.Sent.{Sent}
use Rattle.inverter_worker.specs.declared.state.State.{State}
use Rattle.inverter_worker.specs.declared.state.End.{End}
use Rattle.inverter_worker.specs.declared.state.Step.{Step}
use Rattle.inverter_worker.specs.declared.state.Step.TheVariants.{Ready, Over}
use Rattle.inverter_worker.specs.Runs.{RunStep, LeadsTo, log, sends_of}
use Rattle.inverter_worker.specs.Turns.{readings, reading_in}
use Rattle.inverter_worker.proofs.Runs.{LeadsTo-append}
use Rattle.worker_turn.specs.Doing.{World, AreDone, world_of}
use Rattle.worker_turn.specs.Worker.{WorkerRecord}
use Rattle.worker_turn.specs.Turning.{pending}
use Rattle.worker_turn.specs.Agreeing.{AreEntriesOf, calls_made, made_by}
use Rattle.worker_turn.proofs.Agreeing.{Gains, entered}
use Rattle.worker_turn.proofs.Fewer.{not_over}
use Rattle.plant_run.specs.Own.{entries_of}
use Rattle.plant_run.specs.Works.{IsGoalAfter, IsToldAt, AreTold, IsAtRest, WorksOn}
use Rattle.plant_run.proofs.Steps.{done_between}
use Rattle.plant_run.proofs.Seeing.{IsOwn, all_joined}

done_append : (job : Job) (put : Output) (run later : List RunStep) (old mid new : World) → AreDone job put run old mid
    → AreDone job (pending put run) later mid new → AreDone job put (run ++ later) old new
done_append job put [] later old mid new first last = let P : World → Type 0 = λ w. AreDone job put later w new in subst P first last
done_append job put (one ∷ run) later old mid new first last =
    (first.0, first.1, done_append job one.output run later first.0 mid new first.2 last)

pending_append : (put : Output) (run later : List RunStep) → pending put (run ++ later) ≡ pending (pending put run) later
pending_append put [] later = refl
pending_append put (one ∷ run) later = pending_append one.output run later

told_append : (may_tell : GoalTest) (was_full : Type 0) (inverter : ℕ) (put : Output) (run later : List RunStep) (made : ℕ)
    → AreTold may_tell was_full inverter put run made
    → AreTold may_tell was_full inverter (pending put run) later (made + length (calls_made put run)) → AreTold may_tell was_full inverter put (run ++ later) made
told_append may_tell was_full inverter put [] later made first last =
    let P : ℕ → Type 0 = λ n. AreTold may_tell was_full inverter put later n in
    let none : made + 0 ≡ made = omega arith in subst P none last
told_append may_tell was_full inverter put (one ∷ run) later made first last =
    let P : ℕ → Type 0 = λ n. AreTold may_tell was_full inverter (pending one.output run) later n in
    let more : made + length (made_by put one.input ++ calls_made one.output run)
    ≡ (made + length (made_by put one.input)) + length (calls_made one.output run) =
    omega (arith, length-append (made_by put one.input) (calls_made one.output run)) in
    (first.0, told_append may_tell was_full inverter one.output run later (made + length (made_by put one.input)) first.1 (subst P more last))

calls_append : (put : Output) (run later : List RunStep) → calls_made put (run ++ later) ≡ calls_made put run ++ calls_made (pending put run) later
calls_append put [] later = refl
calls_append put (one ∷ run) later =
    ap (λ (es : List Entry). made_by put one.input ++ es) (calls_append one.output run later)
    ∙ sym (append_assoc (made_by put one.input) (calls_made one.output run) (calls_made (pending one.output run) later))

-- what was told of a book is told of one that goes on from it
pub goal_still : (book : BookRecord) (more : List Entry) (own place inverter : ℕ) (goal : Goal) → IsGoalAfter book own place inverter goal
    → IsGoalAfter (record book { entries = book.entries ++ more }) own place inverter goal
goal_still book more own place inverter goal told =
    let same : take place (book.entries ++ more) ≡ take place book.entries = take-append-le place book.entries more told.within in
    let P : List Entry → Type 0 = λ es. IsGoalOf (record book { entries = es }) inverter goal in
    record {
      within = omega (arith, told.within, length-append book.entries more);
      counted = ap (λ (es : List Entry). length (entries_of inverter es)) same ∙ told.counted;
      told = subst P (sym same) told.told;
    }

-- what passed some tests is told by tests that it passes too
abbrev pub Last : (may_tell may_tell_now : GoalTest) → Type 0
Last may_tell may_tell_now = (made place inverter : ℕ) (goal : Goal) → may_tell made place inverter goal → may_tell_now made place inverter goal

told_one : (may_tell may_tell_now : GoalTest) (was_full was_full_now : Type 0) (inverter made : ℕ) (came : Input) → Last may_tell may_tell_now
    → (was_full → was_full_now) → IsToldAt may_tell was_full inverter made came → IsToldAt may_tell_now was_full_now inverter made came
told_one may_tell may_tell_now was_full was_full_now inverter made (input.Goal goal) goals full told = (told.0, goals made told.0 inverter goal told.1)
told_one may_tell may_tell_now was_full was_full_now inverter made input.Full goals full told = full told
told_one may_tell may_tell_now was_full was_full_now inverter made _ goals full told = tt

pub told_still : (may_tell may_tell_now : GoalTest) (was_full was_full_now : Type 0) (inverter : ℕ) (put : Output) (run : List RunStep) (made : ℕ)
    → Last may_tell may_tell_now → (was_full → was_full_now) → AreTold may_tell was_full inverter put run made → AreTold may_tell_now was_full_now inverter put run made
told_still may_tell may_tell_now was_full was_full_now inverter put [] made goals full told = tt
told_still may_tell may_tell_now was_full was_full_now inverter put (one ∷ run) made goals full told = (
  told_one may_tell may_tell_now was_full was_full_now inverter made one.input goals full told.0,
  told_still may_tell may_tell_now was_full was_full_now inverter one.output run (made + length (made_by put one.input)) goals full told.1,
)

-- a worker that was over made no step more
pub no_step : (job : Job) (state last : State) (run : List RunStep) (end : End) → state.step ≡ Over end → LeadsTo job state run last → run ≡ []
no_step job state last [] end over leads = refl
no_step job state last (one ∷ run) end over leads = absurd (not_over job state leads.1.0 one.input one.output leads.1.1.0 end over)

-- the last output is nothing, or the worker is over
rested : (step : Step) (put : Output) → IsAtRest step put → (put ≡ output.Nothing) ⊎ ((end : End) × (step ≡ Over end))
rested Ready put rests = inl rests
rested (Over end) put rests = inr (end, refl)
rested step put rests = absurd rests

goes_on : (job : Job) (state last : State) (put : Output) (run : List RunStep) → LeadsTo job state run last
    → (put ≡ output.Nothing) ⊎ ((end : End) × (state.step ≡ Over end)) → (put ≡ output.Nothing) ⊎ (run ≡ [])
goes_on job state last put run leads (inl is) = inl is
goes_on job state last put run leads (inr over) = inr (no_step job state last run over.0 over.1 leads)

-- steps behind nothing are steps behind another output where there are none
behind : (P : Output → List RunStep → Type 0) (put : Output) (run : List RunStep) → (put ≡ output.Nothing) ⊎ (run ≡ [])
    → (P output.Nothing [] → P put []) → P output.Nothing run → P put run
behind P put run (inl is) none done = let Q : Output → Type 0 = λ put. P put run in subst Q (sym is) done
behind P put run (inr is) none done =
    let Q : List RunStep → Type 0 = λ run. P put run in
    let R : List RunStep → Type 0 = λ run. P output.Nothing run in subst Q (sym is) (none (subst R is done))

rests_on : (job : Job) (state last : State) (put : Output) (run : List RunStep) → LeadsTo job state run last
    → (put ≡ output.Nothing) ⊎ ((end : End) × (state.step ≡ Over end)) → IsAtRest last.step (pending output.Nothing run)
    → IsAtRest last.step (pending put run)
rests_on job state last put run leads (inl is) rests =
    let P : Output → Type 0 = λ put. IsAtRest last.step (pending put run) in subst P (sym is) rests
rests_on job state last put run leads (inr over) rests =
    let P : List RunStep → Type 0 = λ run. LeadsTo job state run last in
    let same : state ≡ last = subst P (no_step job state last run over.0 over.1 leads) leads in
    let Q : Step → Type 0 = λ step. IsAtRest step (pending put run) in
    subst Q (sym over.1 ∙ ap (λ (s : State). s.step) same) tt

pub entries_length : (made gained : List Entry) → AreEntriesOf made gained → length gained ≡ length made
entries_length [] [] are = refl
entries_length (one ∷ made) (entry ∷ gained) are = ap suc (entries_length made gained are.1)
entries_length [] (entry ∷ gained) are = absurd are
entries_length (one ∷ made) [] are = absurd are

module _ (may_tell may_tell_now : GoalTest) (was_full was_full_now : Type 0) (goals : Last may_tell may_tell_now) (full : was_full → was_full_now)
    (may_give : ℕ → Bool) (job : Job) (first mid last : List Entry) (a b c : WorkerRecord) (links links_mid links_now : Option Links) (faults faults_mid faults_now : ℕ)
    (x : WorksOn may_tell was_full may_give job first mid a b links links_mid faults faults_mid)
    (y : WorksOn may_tell_now was_full_now may_give job mid last b c links_mid links_now faults_mid faults_now) where
  either_way : (pending output.Nothing x.run ≡ output.Nothing) ⊎ ((end : End) × (b.state.step ≡ Over end))
  either_way = rested b.state.step (pending output.Nothing x.run) x.rests

  way : (pending output.Nothing x.run ≡ output.Nothing) ⊎ (y.run ≡ [])
  way = goes_on job b.state c.state (pending output.Nothing x.run) y.run y.leads either_way

  count : length mid ≡ length first + length (calls_made output.Nothing x.run)
  count =
      let gains : Gains (calls_made output.Nothing x.run) (world_of first links faults [] a.unread)
      (world_of mid links_mid faults_mid (readings x.run) b.unread) = entered job output.Nothing x.run _ _ (x.done []) in
      omega (arith, ap length gains.1, length-append first gains.0, entries_length (calls_made output.Nothing x.run) gains.0 gains.2)

  told : AreTold may_tell_now was_full_now job.inverter output.Nothing (x.run ++ y.run) (length first)
  told =
      let Q : ℕ → Type 0 = λ n. AreTold may_tell_now was_full_now job.inverter (pending output.Nothing x.run) y.run n in
      told_append may_tell_now was_full_now job.inverter output.Nothing x.run y.run (length first)
      (told_still may_tell may_tell_now was_full was_full_now job.inverter output.Nothing x.run (length first) goals full x.told)
      (subst Q count (behind (λ put run. AreTold may_tell_now was_full_now job.inverter put run (length mid)) (pending output.Nothing x.run) y.run way (λ _. tt) y.told))

  own : AllByRecursion (IsOwn job.inverter) (calls_made output.Nothing (x.run ++ y.run))
  own =
      subst (AllByRecursion (IsOwn job.inverter)) (sym (calls_append output.Nothing x.run y.run))
      (all_joined (IsOwn job.inverter) (calls_made output.Nothing x.run) (calls_made (pending output.Nothing x.run) y.run) x.own
      (behind (λ put run. AllByRecursion (IsOwn job.inverter) (calls_made put run)) (pending output.Nothing x.run) y.run way (λ _. tt) y.own))

  done : (earlier : List ℕ) → AreDone job output.Nothing (x.run ++ y.run) (world_of first links faults earlier a.unread)
      (world_of last links_now faults_now (earlier ++ readings (x.run ++ y.run)) c.unread)
  done earlier =
      let world : List ℕ → World = λ r. world_of last links_now faults_now r c.unread in
      let read : (earlier ++ readings x.run) ++ readings y.run ≡ earlier ++ readings (x.run ++ y.run) =
      append_assoc earlier (readings x.run) (readings y.run)
      ∙ ap (λ (t : List ℕ). earlier ++ t) (sym (flat_map-append (λ (one : RunStep). reading_in one.input) x.run y.run)) in
      let mid_world = world_of mid links_mid faults_mid (earlier ++ readings x.run) b.unread in
      let all : AreDone job output.Nothing (x.run ++ y.run) (world_of first links faults earlier a.unread)
      (world ((earlier ++ readings x.run) ++ readings y.run)) =
      done_append job output.Nothing x.run y.run _ mid_world _ (x.done earlier)
      (behind (λ put run. AreDone job put run mid_world (world ((earlier ++ readings x.run) ++ readings y.run)))
      (pending output.Nothing x.run) y.run way (λ d. d) (y.done (earlier ++ readings x.run))) in
      done_between job output.Nothing (x.run ++ y.run) _ _ _ _ refl (ap world read) all

  pub joined : WorksOn may_tell_now was_full_now may_give job first last a c links links_now faults faults_now
  joined = record {
    run = x.run ++ y.run;
    job_same = y.job_same;
    leads = LeadsTo-append job a.state b.state c.state x.run y.run x.leads y.leads;
    log = y.log ∙ ap (λ (t : List Sent). t ++ log y.run) x.log ∙ append_assoc a.log (log x.run) (log y.run)
        ∙ ap (λ (t : List Sent). a.log ++ t) (sym (flat_map-append (λ (one : RunStep). sends_of one.output) x.run y.run));
    done = done;
    own = own;
    clock =
        let P : List ℕ → Type 0 = λ r. AreGiven may_give r in
        subst P (sym (flat_map-append (λ (one : RunStep). reading_in one.input) x.run y.run))
        (All-append (λ reading. IsTrue (may_give reading)) (readings x.run) (readings y.run) x.clock y.clock);
    told = told;
    rests =
        let P : Output → Type 0 = λ put. IsAtRest c.state.step put in
        subst P (sym (pending_append output.Nothing x.run y.run))
        (rests_on job b.state c.state (pending output.Nothing x.run) y.run y.leads either_way y.rests);
  }
