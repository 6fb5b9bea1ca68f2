-- What one worker did, over any number of turns.
use Rattle.std.specs.List.{AllByRecursion}
use Rattle.std.specs.Prelude.{◌≡◌, ℕ, Bool, true, ◌+◌, ◌≤◌, List, [], ◌∷◌, ◌++◌, length, take, Option, Contains}
use Rattle.world_traits.specs.Links.{Links}
use Rattle.world_traits.specs.Clocks.{AreGiven}
use Rattle.plant_book.specs.declared.book.Entry.{Entry}
use Rattle.plant_book.specs.Book.{BookRecord}
use Rattle.plant_book.specs.Part.{PartRecord}
use Rattle.plant_book.specs.Life.{Life}
use Rattle.plant_ledger.specs.declared.plant.Goal.{Goal}
use Rattle.ledger_desk.specs.Desk.{GoalTest}
use Rattle.ledger_desk.specs.Plain.{IsGoalOf}
use Rattle.inverter_worker.specs.declared.job.Job.{Job}
use Rattle.inverter_worker.specs.declared.input.Input.{Input}
use Rattle.inverter_worker.specs.declared.input.Input.TheVariants as input
use Rattle.inverter_worker.specs.declared.output.Output.{Output}
use Rattle.inverter_worker.specs.declared.output.Output.TheVariants as output
use Rattle.inverter_worker.specs.declared.state.Step.{Step}
use Rattle.inverter_worker.specs.declared.state.Step.TheVariants.{Ready, Over}
use Rattle.inverter_worker.specs.Runs.{RunStep, LeadsTo, log}
use Rattle.inverter_worker.specs.Turns.{readings}
use Rattle.worker_turn.specs.Doing.{AreDone, world_of}
use Rattle.worker_turn.specs.Turning.{pending}
use Rattle.worker_turn.specs.Worker.{WorkerRecord}
use Rattle.worker_turn.specs.Agreeing.{made_by, calls_made}
use Rattle.plant_run.specs.Own.{is_workers, entries_of}

-- the book with its first so many entries
abbrev pub first_of : BookRecord → ℕ → BookRecord
first_of book place = record book { entries = take place book.entries }

-- A goal of an inverter is that of a book after its first so many entries, which have so many of the inverter's own.
pub record IsGoalAfter (book : BookRecord) (own place inverter : ℕ) (goal : Goal) : Type 0 where
  pub within : place ≤ length book.entries
  pub counted : length (entries_of inverter (take place book.entries)) ≡ own
  pub told : IsGoalOf (first_of book place) inverter goal

-- the book has no room left
abbrev pub IsFull : BookRecord → Type 0
IsFull book = book.site.room ≤ length book.entries

-- What came of a desk after so many of its entries: a goal that it may have told then, or that a book was full.
abbrev pub IsToldAt : GoalTest → (was_full : Type 0) → (inverter made : ℕ) → Input → Type 0
IsToldAt may_tell was_full inverter made (input.Goal goal) = (place : ℕ) × may_tell made place inverter goal
IsToldAt may_tell was_full inverter made input.Full = was_full
IsToldAt may_tell was_full inverter made came = Unit {0}

-- the same of each step behind an output, where so many entries were made before
abbrev pub AreTold : GoalTest → (was_full : Type 0) → (inverter : ℕ) → Output → List RunStep → (made : ℕ) → Type 0
AreTold may_tell was_full inverter output [] made = Unit {0}
AreTold may_tell was_full inverter output (next ∷ later) made = IsToldAt may_tell was_full inverter made next.input
    × AreTold may_tell was_full inverter next.output later (made + length (made_by output next.input))

-- a book of the life has its room of calls
abbrev pub HasFullBook : Life → Type 0
HasFullBook life =
    (part : PartRecord) × Contains (life.ended ++ life.last ∷ []) part × (part.site.room ≤ length part.entries)

-- a life in one book
abbrev pub one_book : PartRecord → Life
one_book part = record { ended = []; last = part }

-- between two turns nothing is left to be done
abbrev pub IsAtRest : Step → Output → Type 0
IsAtRest Ready put = put ≡ output.Nothing
IsAtRest (Over end) put = Unit {0}
IsAtRest step put = ⊥

-- What the worker of a job did through a desk while the desk's entries went from some to others: a run of the table from
-- where it stood to where it stands, whose requests its log has gained. All that the run puts out was done, on the
-- links of its dialer; each call of it is its inverter's, and each entry that the desk gained is a call of the run.
-- Whatever it had read of the clock earlier, the times that came in the run are the readings that were taken, and each
-- of them is one that the clock may give. What came of the desk passes these tests.
pub record WorksOn (may_tell : GoalTest) (was_full : Type 0) (may_give : ℕ → Bool) (job : Job)
    (made made_now : List Entry) (before after : WorkerRecord) (links links_now : Option Links)
    (faults faults_now : ℕ) : Type 0 where
  pub run : List RunStep
  pub job_same : after.job ≡ job
  pub leads : LeadsTo job before.state run after.state
  pub log : after.log ≡ before.log ++ log run
  pub done : (earlier : List ℕ)
      → AreDone job output.Nothing run (world_of made links faults earlier before.unread)
      (world_of made_now links_now faults_now (earlier ++ readings run) after.unread)
  pub own : AllByRecursion (λ made. is_workers job.inverter made.call ≡ true) (calls_made output.Nothing run)
  pub clock : AreGiven may_give (readings run)
  pub told : AreTold may_tell was_full job.inverter output.Nothing run (length made)
  pub rests : IsAtRest after.state.step (pending output.Nothing run)

-- What it did while a book grew from one to another: the desk's entries are those of the book that are its own, and the
-- goals are those of the book; where it was told that a book is full, one was.
abbrev pub Works : (may_give : ℕ → Bool) → (job : Job) → (opened book : BookRecord) → (full : Type 0)
    → (before after : WorkerRecord) → (links links_now : Option Links) → (faults faults_now : ℕ) → Type 0
Works may_give job opened book full =
    WorksOn (IsGoalAfter book) full may_give job (entries_of job.inverter opened.entries)
    (entries_of job.inverter book.entries)
