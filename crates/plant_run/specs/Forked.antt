-- What the workers of a plant and the console of its operator did on one life, each in a thread of its own.
use Rattle.std.specs.Prelude.{◌≡◌, ◌⊎◌, ℕ, ◌<◌, Bool, true, List, length, Option, Some, slice_get}
use Rattle.std.specs.List.{AllByRecursion}
use Rattle.world_traits.specs.Links.{Links}
use Rattle.plant_book.specs.declared.book.Entry.{Entry}
use Rattle.plant_book.specs.Part.{PartRecord, first_book}
use Rattle.plant_book.specs.Life.{Life, IsLife, joined_book}
use Rattle.plant_ledger.specs.Plant.{IsSafeLife}
use Rattle.ledger_desk.specs.Desk.{DeskState, DeskTests, TestsLast}
use Rattle.worker_turn.specs.Desks.{RollsNone}
use Rattle.worker_turn.specs.Worker.{WorkerRecord, IsBetweenTurns}
use Rattle.operator_console.specs.declared.session.ConsoleEnd.{ConsoleEnd}
use Rattle.plant_run.specs.Works.{WorksOn, HasFullBook}
use Rattle.plant_run.specs.Running.{EachWorker, EachWorks, IsOver, IsOfOne}
use Rattle.plant_run.specs.Operator.{is_operators, IsConsole}

-- an entry that the worker at some place made, or the operator
abbrev pub IsOfSomeone : List WorkerRecord → Entry → Type 0
IsOfSomeone workers entry = IsOfOne workers entry ⊎ (is_operators entry.call ≡ true)

-- The workers and the console over one life, of the site and start of the plant as it was opened, which is on the last
-- book of that life now. Each reply is right, and whatever past that fits it followed, the life is safe at every
-- moment. Each entry is a worker's or the operator's. What each worker did, to its end, agrees with the joined book and
-- with its dialer, as on one thread. What the console did stands in the life.
pub record IsForked {N : Type 0} (links : N → Option Links) (faults : N → ℕ) (may_give : ℕ → Bool)
    (opened plant : PartRecord) (workers workers_now : List WorkerRecord) (dialers dialers_now : List N)
    (ended : ConsoleEnd) (left left_now : Option (List ℕ)) (taken taken_now : Option (List ℕ)) : Type 0 where
  pub life : Life
  pub last : plant ≡ life.last
  pub site : plant.site ≡ opened.site
  pub start : plant.start ≡ opened.start
  pub answered : IsLife life
  pub safe : IsSafeLife (joined_book life)
  pub owned : AllByRecursion (IsOfSomeone workers) (joined_book life).entries
  pub works : EachWorks links faults may_give (first_book opened) (joined_book life) (HasFullBook life) workers
      workers_now dialers dialers_now
  pub over : EachWorker IsOver workers_now
  pub console : IsConsole may_give life ended left left_now taken taken_now

-- What a worker did through a desk of its own, to its end, which rolls no book. No promise to a caller names this.
pub record RunsOut {D N Kept : Type 0} (state : D → DeskState) (tests : D → DeskTests) (kept_of : D → Kept)
    (links : N → Option Links) (faults : N → ℕ) (may_give : ℕ → Bool) (before after : WorkerRecord)
    (desk desk_now : D) (dialer dialer_now : N) : Type 0 where
  pub works : WorksOn (tests desk_now).may_tell (tests desk_now).was_full may_give before.job (state desk).made
      (state desk_now).made before after (links dialer) (links dialer_now) (faults dialer) (faults dialer_now)
  pub over : IsOver after
  pub stays : RollsNone (state desk) (state desk_now)
  pub last : TestsLast (tests desk) (tests desk_now)
  pub kept : kept_of desk_now ≡ kept_of desk

-- the same of the worker, the desk and the dialer at each place
abbrev pub EachRunsOut : {D N Kept : Type 0} → (state : D → DeskState) → (tests : D → DeskTests) → (kept_of : D → Kept)
    → (links : N → Option Links) → (faults : N → ℕ) → (may_give : ℕ → Bool)
    → (workers workers_now : List WorkerRecord) → (desks desks_now : List D) → (dialers dialers_now : List N) → Type 0
EachRunsOut {D} {N} state tests kept_of links faults may_give workers workers_now desks desks_now dialers dialers_now =
    (place : ℕ) (before after : WorkerRecord) (desk desk_now : D) (old new : N)
    → slice_get workers place ≡ Some before → slice_get workers_now place ≡ Some after
    → slice_get desks place ≡ Some desk → slice_get desks_now place ≡ Some desk_now
    → slice_get dialers place ≡ Some old → slice_get dialers_now place ≡ Some new
    → RunsOut state tests kept_of links faults may_give before after desk desk_now old new

-- all of them did so, and are as many as before
pub record AllRunOut {D N Kept : Type 0} (state : D → DeskState) (tests : D → DeskTests) (kept_of : D → Kept)
    (links : N → Option Links) (faults : N → ℕ) (may_give : ℕ → Bool) (workers workers_now : List WorkerRecord)
    (desks desks_now : List D) (dialers dialers_now : List N) : Type 0 where
  pub each : EachRunsOut state tests kept_of links faults may_give workers workers_now desks desks_now dialers
      dialers_now
  pub workers_stay : length workers_now ≡ length workers
  pub desks_stay : length desks_now ≡ length desks
  pub dialers_stay : length dialers_now ≡ length dialers

-- each worker is between two turns, and its desk has its inverter
abbrev pub EachReady : {D : Type 0} → (state : D → DeskState) → (workers : List WorkerRecord)
    → (desks : List D) → Type 0
EachReady {D} state workers desks = (place : ℕ) (worker : WorkerRecord) (desk : D)
    → slice_get workers place ≡ Some worker → slice_get desks place ≡ Some desk
    → (worker.job.inverter < (state desk).inverters) × IsBetweenTurns worker.state.step
