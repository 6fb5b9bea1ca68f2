-- What all workers of a plant did together.
use Rattle.std.specs.Prelude.{◌≡◌, ℕ, ◌≤◌, Bool, true, List, Option, Some, slice_get}
use Rattle.world_traits.specs.Links.{Links}
use Rattle.plant_book.specs.declared.book.Entry.{Entry}
use Rattle.plant_book.specs.Site.{SiteRecord}
use Rattle.plant_book.specs.Book.{BookRecord}
use Rattle.inverter_worker.specs.declared.state.End.{End}
use Rattle.inverter_worker.specs.declared.state.Step.TheVariants.{Over}
use Rattle.worker_turn.specs.Worker.{WorkerRecord, new_worker}
use Rattle.plant_run.specs.Own.{is_workers}
use Rattle.plant_run.specs.Works.{Works}

-- a fact of each worker
abbrev pub EachWorker : (WorkerRecord → Type 0) → List WorkerRecord → Type 0
EachWorker Fact workers = (place : ℕ) (worker : WorkerRecord) → slice_get workers place ≡ Some worker → Fact worker

-- a worker that made no turn yet
abbrev pub IsNew : WorkerRecord → Type 0
IsNew worker = worker ≡ new_worker worker.job worker.state.turns

-- a worker whose job has the unit and the rules of a site
pub record IsOfSite (site : SiteRecord) (worker : WorkerRecord) : Type 0 where
  pub unit : slice_get site.units worker.job.inverter ≡ Some worker.job.unit
  pub rules : worker.job.rules ≡ site.rules

-- no two workers have one inverter
abbrev pub Differ : List WorkerRecord → Type 0
Differ workers = (place other : ℕ) (worker another : WorkerRecord) → slice_get workers place ≡ Some worker
    → slice_get workers other ≡ Some another → worker.job.inverter ≡ another.job.inverter → place ≡ other

-- a worker that is over
abbrev pub IsOver : WorkerRecord → Type 0
IsOver worker = (end : End) × (worker.state.step ≡ Over end)

-- an entry that the worker at some place makes
pub record IsOfOne (workers : List WorkerRecord) (entry : Entry) : Type 0 where
  pub place : ℕ
  pub worker : WorkerRecord
  pub is : slice_get workers place ≡ Some worker
  pub own : is_workers worker.job.inverter entry.call ≡ true

-- What the worker at each place did with the dialer at that place, while a book grew from one to another. Where one was
-- told that a book is full, one was.
abbrev pub EachWorks : {N : Type 0} → (links : N → Option Links) → (faults : N → ℕ) → (may_give : ℕ → Bool)
    → (opened book : BookRecord) → (full : Type 0) → (workers workers_now : List WorkerRecord)
    → (dialers dialers_now : List N) → Type 0
EachWorks {N} links faults may_give opened book full workers workers_now dialers dialers_now =
    (place : ℕ) (before after : WorkerRecord) (old new : N)
    → slice_get workers place ≡ Some before → slice_get workers_now place ≡ Some after
    → slice_get dialers place ≡ Some old → slice_get dialers_now place ≡ Some new
    → Works may_give before.job opened book full before after (links old) (links new) (faults old) (faults new)

-- dialers that no worker has stay as they were
abbrev pub StayBehind : {N : Type 0} → (count : ℕ) → (dialers dialers_now : List N) → Type 0
StayBehind count dialers dialers_now = (place : ℕ) → count ≤ place
    → slice_get dialers_now place ≡ slice_get dialers place
