-- A run of the plant of a site file.
use Rattle.std.specs.Prelude.{◌≡◌, ◌⊎◌, ℕ, ◌<◌, Bool, true, IsTrue, List, [], length, Option, Some, None, slice_get}
use Rattle.std.specs.List.{AllByRecursion}
use Rattle.world_traits.specs.Links.{Links}
use Rattle.plant_book.specs.declared.book.Entry.{Entry}
use Rattle.plant_book.specs.Site.{inverters}
use Rattle.plant_book.specs.Book.{BookRecord}
use Rattle.plant_book.specs.Part.{PartRecord}
use Rattle.plant_book.specs.Life.{Life, IsLife, joined_book}
use Rattle.plant_ledger.specs.Plant.{IsSafeLife}
use Rattle.site_config.specs.SiteFile.{SiteFileRecord}
use Rattle.inverter_worker.specs.declared.job.Job.{Job}
use Rattle.inverter_worker.specs.declared.state.End.TheVariants as over
use Rattle.inverter_worker.specs.declared.state.Step.TheVariants.{Over}
use Rattle.worker_turn.specs.Worker.{WorkerRecord, new_worker}
use Rattle.inverter_worker.specs.Turns.{readings}
use Rattle.plant_run.specs.Own.{is_workers, own_world}
use Rattle.plant_run.specs.Agreement.{Agrees}
use Rattle.operator_console.specs.declared.session.ConsoleEnd.{ConsoleEnd}
use Rattle.plant_run.specs.Works.{Works, HasFullBook}
use Rattle.plant_run.specs.Running.{IsOver, StayBehind}
use Rattle.plant_run.specs.Operator.{is_operators, IsConsole}

-- the job of the inverter of this number: its unit and its port, and the rules and times of the site file
pub record IsJobOf (file : SiteFileRecord) (number : ℕ) (job : Job) : Type 0 where
  pub inverter : job.inverter ≡ number
  pub unit : slice_get file.site.units number ≡ Some job.unit
  pub port : slice_get file.ports number ≡ Some job.port
  pub rules : job.rules ≡ file.site.rules
  pub renew : job.renew ≡ file.renew
  pub pause : job.pause ≡ file.pause
  pub wait : job.wait ≡ file.wait

-- a worker before its first turn, of the inverter of this number
pub record IsSeated (file : SiteFileRecord) (turns number : ℕ) (worker : WorkerRecord) : Type 0 where
  pub job : IsJobOf file number worker.job
  pub new : worker ≡ new_worker worker.job turns

-- so many of them, by their numbers from 0
pub record AreSeated (file : SiteFileRecord) (turns count : ℕ) (workers : List WorkerRecord) : Type 0 where
  pub all : length workers ≡ count
  pub each : (number : ℕ) (worker : WorkerRecord) → slice_get workers number ≡ Some worker
      → IsSeated file turns number worker

-- a life without an entry, and a worker for each inverter
pub record IsOpened (file : SiteFileRecord) (turns start : ℕ) (plant : PartRecord) (workers : List WorkerRecord)
    : Type 0 where
  pub empty : plant ≡ record { site = file.site; start = start; carry = None; entries = [] }
  pub seated : AreSeated file turns (inverters file.site) workers

-- the book of a life as it was opened
abbrev pub opened_book : Life → BookRecord
opened_book life = record { site = life.last.site; start = life.last.start; entries = [] }

-- What the worker of the inverter of this number did over a life, from its first turn to its end: a run of the table,
-- which agrees with the life's joined book and with its dialer.
pub record IsWork (may_give : ℕ → Bool) (file : SiteFileRecord) (turns number : ℕ) (life : Life)
    (after : WorkerRecord) (links links_now : Option Links) (faults faults_now : ℕ) : Type 0 where
  pub job : IsJobOf file number after.job
  pub works : Works may_give after.job (opened_book life) (joined_book life) (HasFullBook life)
      (new_worker after.job turns) after links links_now faults faults_now
  pub agrees : Agrees after.job (joined_book life) (HasFullBook life) works.run
      (own_world after.job.inverter (opened_book life) links faults [] [])
      (own_world after.job.inverter (joined_book life) links_now faults_now (readings works.run) after.unread)
  pub over : IsOver after

-- an entry that one of so many workers made, or the operator
abbrev pub IsOfSomeone : (count : ℕ) → Entry → Type 0
IsOfSomeone count entry =
    ((inverter : ℕ) × (inverter < count) × (is_workers inverter entry.call ≡ true))
    ⊎ (is_operators entry.call ≡ true)

-- a worker that ended at a full book
abbrev pub IsAtFullBook : WorkerRecord → Type 0
IsAtFullBook worker = worker.state.step ≡ Over over.BookFull

-- A run: one life of the site of the file, begun at a reading of the clock, whose replies are right, and which is safe
-- at every moment behind every past that fits; the plant is on its last book. Each entry is a worker's or the
-- operator's. What each worker did, to its end, goes with the life and with the links of the dialer at its number; one
-- that ended at a full book found one so. What the console did stands in the life. The dialers behind those are as they
-- were.
pub record IsRun {N : Type 0} (links : N → Option Links) (faults : N → ℕ) (may_give : ℕ → Bool)
    (file : SiteFileRecord) (turns : ℕ) (dialers dialers_now : List N) (plant : PartRecord)
    (workers : List WorkerRecord) (console : ConsoleEnd) (left left_now taken taken_now : Option (List ℕ))
    : Type 0 where
  pub life : Life
  pub last : plant ≡ life.last
  pub site : plant.site ≡ file.site
  pub start : IsTrue (may_give plant.start)
  pub answered : IsLife life
  pub safe : IsSafeLife (joined_book life)
  pub owned : AllByRecursion (IsOfSomeone (inverters file.site)) (joined_book life).entries
  pub all : length workers ≡ inverters file.site
  pub each : (number : ℕ) (after : WorkerRecord) (old new : N) → slice_get workers number ≡ Some after
      → slice_get dialers number ≡ Some old → slice_get dialers_now number ≡ Some new
      → IsWork may_give file turns number life after (links old) (links new) (faults old) (faults new)
  pub full : (number : ℕ) (worker : WorkerRecord) → slice_get workers number ≡ Some worker → IsAtFullBook worker
      → HasFullBook life
  pub operator : IsConsole may_give life console left left_now taken taken_now
  pub dialers_stay : length dialers_now ≡ length dialers
  pub behind : StayBehind (inverters file.site) dialers dialers_now
