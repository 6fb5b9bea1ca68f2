-- What all workers did makes a run of the site.
use Rattle.std.proofs.Common.{◌≡◌, ◌⊎◌, inl, inr, ℕ, ◌<◌, ◌≤◌, Bool, true, List, [], ◌∷◌, length, Option, Some, refl, sym, ap, subst, arith}
use Rattle.std.specs.Prelude.{slice_get}
use Rattle.std.specs.List.{AllByRecursion}
use Rattle.std.proofs.lemmas.Option.{slice_get_within}
use Rattle.world_traits.specs.Links.{Links}
use Rattle.plant_book.specs.declared.book.Entry.{Entry}
use Rattle.plant_book.specs.Site.{SiteRecord}
use Rattle.plant_book.specs.Book.{BookRecord}
use Rattle.plant_book.specs.Part.{PartRecord, first_book}
use Rattle.plant_book.specs.Life.{Life, joined_book}
use Rattle.site_config.specs.SiteFile.{SiteFileRecord}
use Rattle.inverter_worker.specs.declared.job.Job.{Job}
use Rattle.inverter_worker.specs.declared.output.Output.TheVariants as output
use Rattle.inverter_worker.specs.Runs.{first_state}
use Rattle.worker_turn.specs.Worker.{WorkerRecord, new_worker}
use Rattle.plant_run.specs.Own.{is_workers}
use Rattle.plant_run.specs.Works.{Works, IsGoalAfter, HasFullBook}
use Rattle.plant_run.specs.Running.{EachWorker, EachWorks, IsOver}
use Rattle.plant_run.specs.Forked as forked
use Rattle.plant_run.proofs.Seats.{get_at}
use Rattle.plant_run.proofs.Agreeing.{agrees}
use Rattle.site_run.specs.Run.{IsJobOf, AreSeated, IsWork, IsOfSomeone, IsAtFullBook, opened_book}
use Rattle.site_run.proofs.Full.{told_full}

-- an entry of one of the workers has the number of an inverter, and the operator's stay theirs
someones : (file : SiteFileRecord) (turns count : ℕ) (workers : List WorkerRecord) (entry : Entry) → AreSeated file turns count workers
    → forked.IsOfSomeone workers entry → IsOfSomeone count entry
someones file turns count workers entry are (inl one) =
    let P : ℕ → Type 0 = λ n. is_workers n entry.call ≡ true in
    inl (one.place, omega (arith, slice_get_within workers one.place one.worker one.is, are.all), subst P (are.each one.place one.worker one.is).job.inverter one.own)
someones file turns count workers entry are (inr operator) = inr operator

-- each entry is a worker's or the operator's
pub owned : (file : SiteFileRecord) (turns count : ℕ) (workers : List WorkerRecord) (entries : List Entry) → AreSeated file turns count workers
    → AllByRecursion (forked.IsOfSomeone workers) entries → AllByRecursion (IsOfSomeone count) entries
owned file turns count workers [] are each = tt
owned file turns count workers (entry ∷ entries) are each =
    (someones file turns count workers entry are each.0, owned file turns count workers entries are each.1)

-- the book of the life as it was opened
pub opened_is : (opened : PartRecord) (life : Life) → opened.entries ≡ [] → life.last.site ≡ opened.site → life.last.start ≡ opened.start → first_book opened ≡ opened_book life
opened_is opened life none site start = λ i. record { site = sym site i; start = sym start i; entries = none i }

works_as : (may_give : ℕ → Bool) (job other : Job) (turns : ℕ) (opened first book : BookRecord) (full : Type 0) (before after : WorkerRecord) (links links_now : Option Links) (faults faults_now : ℕ)
    → before ≡ new_worker job turns → other ≡ job → opened ≡ first → Works may_give job opened book full before after links links_now faults faults_now
    → Works may_give other first book full (new_worker other turns) after links links_now faults faults_now
works_as may_give job other turns opened first book full before after links links_now faults faults_now new same is works =
    let P : WorkerRecord → Type 0 = λ w. Works may_give job opened book full w after links links_now faults faults_now in
    let Q : Job → Type 0 = λ j. Works may_give j opened book full (new_worker j turns) after links links_now faults faults_now in
    let R : BookRecord → Type 0 = λ b. Works may_give other b book full (new_worker other turns) after links links_now faults faults_now in
    subst R is (subst Q (sym same) (subst P new works))

module _ {N : Type 0} (links : N → Option Links) (faults : N → ℕ) (may_give : ℕ → Bool) where
  -- what the worker at each place did is what that of the inverter of this number did
  pub each_work : (file : SiteFileRecord) (turns count : ℕ) (opened : BookRecord) (life : Life) (workers workers_now : List WorkerRecord) (dialers dialers_now : List N)
      → opened ≡ opened_book life → AreSeated file turns count workers → length workers_now ≡ length workers
      → EachWorks links faults may_give opened (joined_book life) (HasFullBook life) workers workers_now dialers dialers_now → EachWorker IsOver workers_now
      → (number : ℕ) (after : WorkerRecord) (old new : N) → slice_get workers_now number ≡ Some after → slice_get dialers number ≡ Some old → slice_get dialers_now number ≡ Some new
      → IsWork may_give file turns number life after (links old) (links new) (faults old) (faults new)
  each_work file turns count opened life workers workers_now dialers dialers_now first are stay each over number after old new is its now =
      let within : number < length workers = omega (arith, slice_get_within workers_now number after is, stay) in
      let before = get_at workers number within in
      let seat = are.each number before.0 before.1 in
      let works = each number before.0 after old new before.1 is its now in
      let J : Job → Type 0 = λ j. IsJobOf file number j in
      let whole : Works may_give after.job (opened_book life) (joined_book life) (HasFullBook life) (new_worker after.job turns) after (links old) (links new) (faults old) (faults new) =
      works_as may_give before.0.job after.job turns opened (opened_book life) (joined_book life) (HasFullBook life) before.0 after (links old) (links new) (faults old) (faults new)
      seat.new works.job_same first works in
      record {
        job = subst J (sym works.job_same) seat.job;
        works = whole;
        agrees = agrees may_give (opened_book life) (joined_book life) (HasFullBook life) (new_worker after.job turns) after (links old) (links new) (faults old) (faults new) whole refl refl;
        over = over number after is;
      }

  -- a worker that ended at a full book found one so
  pub at_full : (file : SiteFileRecord) (turns : ℕ) (life : Life) (workers : List WorkerRecord) (dialers dialers_now : List N)
      → length workers ≤ length dialers → length dialers_now ≡ length dialers
      → ((number : ℕ) (after : WorkerRecord) (old new : N) → slice_get workers number ≡ Some after → slice_get dialers number ≡ Some old → slice_get dialers_now number ≡ Some new
      → IsWork may_give file turns number life after (links old) (links new) (faults old) (faults new))
      → (number : ℕ) (worker : WorkerRecord) → slice_get workers number ≡ Some worker → IsAtFullBook worker → HasFullBook life
  at_full file turns life workers dialers dialers_now few stay each number worker is full =
      let within : number < length workers = slice_get_within workers number worker is in
      let old = get_at dialers number (omega (arith, within, few)) in
      let new = get_at dialers_now number (omega (arith, within, few, stay)) in
      let works = (each number worker old.0 new.0 is old.1 new.1).works in
      told_full worker.job (IsGoalAfter (joined_book life)) (HasFullBook life) worker.job.inverter (first_state turns) worker.state output.Nothing works.run _ works.leads tt full works.told
