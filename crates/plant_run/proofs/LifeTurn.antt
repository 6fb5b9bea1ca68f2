-- What a worker did on the desk of a whole life, as of the life's book.
use Rattle.std.proofs.Common.{◌≡◌, ℕ, zero, suc, ◌+◌, ◌≤◌, Bool, true, List, [], ◌∷◌, ◌++◌, length, take, Option, Some, refl, sym, ap, subst, ◌∙◌, arith, append-nil, length-append, append_assoc}
use Rattle.std.specs.Prelude.{slice_get}
use Rattle.std.specs.List.{AllByRecursion}
use Rattle.std.proofs.lemmas.List.{take-append-le, take_all}
use Rattle.std.proofs.lemmas.List.Elements.{filter-append}
use Rattle.std.proofs.lemmas.Option.{none-some, get_or_from_slice_get}
use Rattle.world_traits.specs.Links.{Links}
use Rattle.plant_book.specs.declared.book.Entry.{Entry}
use Rattle.ledger_desk.specs.Plain.{PlainRecord, LifeRecord, joined, front, state_of, life_of, MayTell, WasFull}
use Rattle.inverter_worker.specs.declared.job.Job.{Job}
use Rattle.inverter_worker.specs.declared.input.Input.{Input}
use Rattle.inverter_worker.specs.declared.input.Input.TheVariants as input
use Rattle.inverter_worker.specs.declared.output.Output.{Output}
use Rattle.inverter_worker.specs.declared.output.Output.TheVariants as output
use Rattle.inverter_worker.specs.Runs.{RunStep}
use Rattle.inverter_worker.specs.Turns.{readings}
use Rattle.worker_turn.specs.Doing.{World, AreDone, world_of}
use Rattle.worker_turn.specs.Worker.{WorkerRecord}
use Rattle.worker_turn.specs.Agreeing.{calls_made, made_by}
use Rattle.worker_turn.proofs.Agreeing.{Gains, gains, entered}
use Rattle.plant_run.specs.Own.{is_workers, entries_of}
use Rattle.plant_run.specs.Works.{IsGoalAfter, IsFull, IsToldAt, AreTold, WorksOn, Works}
use Rattle.plant_run.specs.Rounds.{IsWhole, Grows, book_of}
use Rattle.plant_run.proofs.Steps.{done_between}
use Rattle.plant_run.proofs.Seeing.{Adds, IsOwn, all_map, all_split, all_own, entries_own, own_adds, viewed_all}
use Rattle.plant_run.proofs.Joining.{entries_length}

-- of a life that was not rolled there is one book that may be full
only_book : (number begin end whole room : ℕ) → slice_get (0 ∷ []) number ≡ Some begin → slice_get (whole ∷ []) number ≡ Some end
    → begin + room ≤ end → room ≤ whole
only_book zero begin end whole room begins ends full =
    omega (arith, get_or_from_slice_get (0 ∷ []) zero begin 0 begins, get_or_from_slice_get (whole ∷ []) zero end 0 ends, full)
only_book (suc number) begin end whole room begins ends full = absurd (none-some begin begins)

-- the entries that were made on it are those of the life
made_whole : (desk : PlainRecord) → IsWhole desk → (state_of desk).made ≡ joined desk
made_whole desk whole = rw whole.begun refl

module _ (old new : PlainRecord) (whole : IsWhole old) (whole_now : IsWhole new) (life : life_of new ≡ life_of old) where
  -- the book goes on
  pub goes_on : (Fact : Entry → Type 0) (gained : List Entry) → (state_of new).made ≡ (state_of old).made ++ gained → AllByRecursion Fact gained
      → Grows Fact (book_of old) (book_of new)
  goes_on Fact gained is each =
      let site : new.book.site ≡ old.book.site = ap (λ (l : LifeRecord). l.site) life in
      let start : new.book.start ≡ old.book.start = ap (λ (l : LifeRecord). l.start) life in
      let entries : joined new ≡ joined old ++ gained =
      sym (made_whole new whole_now) ∙ is ∙ ap (λ (es : List Entry). es ++ gained) (made_whole old whole) in
      record { more = gained; is = rw (site, start, entries) refl; each = each }

  -- and a full book is full
  full_now : WasFull new → IsFull (book_of new)
  full_now full =
      let P : List ℕ → Type 0 = λ rolls. slice_get (0 ∷ rolls) full.number ≡ Some full.begin in
      let Q : List ℕ → Type 0 = λ rolls. slice_get (rolls ++ front new ∷ []) full.number ≡ Some full.end in
      only_book full.number full.begin full.end (front new) new.book.site.room (subst P whole_now.rolls full.begins) (subst Q whole_now.rolls full.ends) full.full

  -- a goal that was told after so many entries of the life is told after so many of the worker's own
  module _ (job : Job) where
    abbrev see : List Entry → List Entry
    see = entries_of job.inverter

    told_one : (made more : List Entry) (came : Input) → joined new ≡ made ++ more → IsToldAt (MayTell new) (WasFull new) job.inverter (length made) came
        → IsToldAt (IsGoalAfter (book_of new)) (IsFull (book_of new)) job.inverter (length (see made)) came
    told_one made more (input.Goal goal) is told =
        let at : told.0 ≡ length made = omega (arith, told.1.counted, whole_now.begun) in
        let first : take told.0 (joined new) ≡ made =
        ap (λ n. take n (joined new)) at ∙ ap (take (length made)) is ∙ take-append-le (length made) made more (omega arith)
        ∙ take_all (length made) made (omega arith) in
        (told.0, record { within = told.1.within; counted = ap (λ (es : List Entry). length (see es)) first; told = told.1.told })
    told_one made more input.Full is told = full_now told
    told_one made more _ is told = tt

    told_all : (put : Output) (run : List RunStep) (was is_now : World) (more : List Entry) → AreDone job put run was is_now
        → joined new ≡ is_now.made ++ more → AllByRecursion (IsOwn job.inverter) (calls_made put run)
        → AreTold (MayTell new) (WasFull new) job.inverter put run (length was.made)
        → AreTold (IsGoalAfter (book_of new)) (IsFull (book_of new)) job.inverter put run (length (see was.made))
    told_all put [] was is_now more done is own told = tt
    told_all put (one ∷ later) was is_now more done is own told =
        let parts = all_split (IsOwn job.inverter) (made_by put one.input) (calls_made one.output later) own in
        let here : Gains (made_by put one.input) was done.0 = gains job put one.input was done.0 done.1 in
        let rest : Gains (calls_made one.output later) done.0 is_now = entered job one.output later done.0 is_now done.2 in
        let between : joined new ≡ done.0.made ++ (rest.0 ++ more) =
        is ∙ ap (λ (es : List Entry). es ++ more) rest.1 ∙ append_assoc done.0.made rest.0 more in
        let first : joined new ≡ was.made ++ (here.0 ++ (rest.0 ++ more)) =
        between ∙ ap (λ (es : List Entry). es ++ (rest.0 ++ more)) here.1 ∙ append_assoc was.made here.0 (rest.0 ++ more) in
        let count : length done.0.made ≡ length was.made + length (made_by put one.input) =
        omega (arith, ap length here.1, length-append was.made here.0, entries_length (made_by put one.input) here.0 here.2) in
        let seen : see done.0.made ≡ see was.made ++ here.0 =
        ap see here.1 ∙ filter-append (λ (e : Entry). is_workers job.inverter e.call) was.made here.0
        ∙ ap (λ (es : List Entry). see was.made ++ es) (all_own job.inverter here.0 (entries_own job.inverter (made_by put one.input) here.0 parts.0 here.2)) in
        let own_count : length (see done.0.made) ≡ length (see was.made) + length (made_by put one.input) =
        omega (arith, ap length seen, length-append (see was.made) here.0, entries_length (made_by put one.input) here.0 here.2) in
        let P : ℕ → Type 0 = λ n. AreTold (MayTell new) (WasFull new) job.inverter one.output later n in
        let Q : ℕ → Type 0 = λ n. AreTold (IsGoalAfter (book_of new)) (IsFull (book_of new)) job.inverter one.output later n in (
          told_one was.made (here.0 ++ (rest.0 ++ more)) one.input first told.0,
          subst Q own_count (told_all one.output later done.0 is_now more done.2 is parts.1 (subst P (sym count) told.1)),
        )

  module _ (may_give : ℕ → Bool) (job : Job) (before after : WorkerRecord) (links links_now : Option Links) (faults faults_now : ℕ)
      (works : WorksOn (MayTell new) (WasFull new) may_give job (state_of old).made (state_of new).made before after links links_now faults faults_now) where
    gained : Gains (calls_made output.Nothing works.run) (world_of (state_of old).made links faults [] before.unread)
        (world_of (state_of new).made links_now faults_now (readings works.run) after.unread)
    gained = entered job output.Nothing works.run _ _ (works.done [])

    pub life_grows : Grows (λ entry. is_workers job.inverter entry.call ≡ true) (book_of old) (book_of new)
    life_grows = goes_on (λ entry. is_workers job.inverter entry.call ≡ true) gained.0 gained.1
        (entries_own job.inverter (calls_made output.Nothing works.run) gained.0 works.own gained.2)

    seen_old : see job (state_of old).made ≡ see job (joined old)
    seen_old = ap (see job) (made_whole old whole)

    seen_new : see job (state_of new).made ≡ see job (joined new)
    seen_new = ap (see job) (made_whole new whole_now)

    seen_done : (earlier : List ℕ) → AreDone job output.Nothing works.run (world_of (see job (joined old)) links faults earlier before.unread)
        (world_of (see job (joined new)) links_now faults_now (earlier ++ readings works.run) after.unread)
    seen_done earlier =
        done_between job output.Nothing works.run _ _ _ _
        (ap (λ (es : List Entry). world_of es links faults earlier before.unread) seen_old)
        (ap (λ (es : List Entry). world_of es links_now faults_now (earlier ++ readings works.run) after.unread) seen_new)
        (viewed_all (see job) [] job output.Nothing works.run _ _
        (all_map (IsOwn job.inverter) (Adds (see job)) (own_adds job.inverter) (calls_made output.Nothing works.run) works.own) (works.done earlier))

    seen_told : AreTold (IsGoalAfter (book_of new)) (IsFull (book_of new)) job.inverter output.Nothing works.run (length (see job (joined old)))
    seen_told =
        let P : List Entry → Type 0 = λ es. AreTold (IsGoalAfter (book_of new)) (IsFull (book_of new)) job.inverter output.Nothing works.run (length es) in
        subst P seen_old (told_all job output.Nothing works.run _ _ [] (works.done []) (sym (append-nil (joined new)) ∙ ap (λ (es : List Entry). es ++ []) (sym (made_whole new whole_now)))
        works.own works.told)

    pub life_works : Works may_give job (book_of old) (book_of new) (IsFull (book_of new)) before after links links_now faults faults_now
    life_works = record {
      run = works.run;
      job_same = works.job_same;
      leads = works.leads;
      log = works.log;
      done = seen_done;
      own = works.own;
      clock = works.clock;
      told = seen_told;
      rests = works.rests;
    }
