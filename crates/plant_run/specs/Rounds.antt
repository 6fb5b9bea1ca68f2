-- The way through a life. No promise to a caller names this.
use Rattle.std.specs.Prelude.{◌≡◌, ℕ, Bool, suc, ◌<◌, List, [], ◌++◌, length, Option}
use Rattle.std.specs.List.{AllByRecursion, sum_by}
use Rattle.world_traits.specs.Links.{Links}
use Rattle.plant_book.specs.declared.book.Entry.{Entry}
use Rattle.plant_book.specs.Book.{BookRecord}
use Rattle.plant_book.specs.Part.{book_before}
use Rattle.ledger_desk.specs.Plain.{PlainRecord, joined}
use Rattle.inverter_worker.specs.declared.state.Step.{Step}
use Rattle.inverter_worker.specs.declared.state.Step.TheVariants.{Over}
use Rattle.worker_turn.specs.Worker.{WorkerRecord, IsBetweenTurns}
use Rattle.plant_run.specs.Works.{IsFull}
use Rattle.plant_run.specs.Running.{EachWorks, IsOfOne, StayBehind}

-- a desk of a whole life that was not rolled yet
pub record IsWhole (desk : PlainRecord) : Type 0 where
  pub begun : desk.begun ≡ 0
  pub rolls : desk.rolls ≡ []

-- the book of the life
abbrev pub book_of : PlainRecord → BookRecord
book_of desk = book_before (joined desk) desk.book

-- a worker between two turns, whose inverter the desk has
pub record IsSeat (count : ℕ) (worker : WorkerRecord) : Type 0 where
  pub of_desk : worker.job.inverter < count
  pub rests : IsBetweenTurns worker.state.step

-- the turns that a worker has left, and one more as long as it isn't over
abbrev pub left_at : Step → (turns : ℕ) → ℕ
left_at (Over end) turns = 0
left_at step turns = suc turns

abbrev pub turns_left : WorkerRecord → ℕ
turns_left worker = left_at worker.state.step worker.state.turns

abbrev pub all_left : List WorkerRecord → ℕ
all_left workers = sum_by turns_left workers

-- the book with more entries, of which each has a fact
pub record Grows (Fact : Entry → Type 0) (opened book : BookRecord) : Type 0 where
  pub more : List Entry
  pub is : book ≡ record opened { entries = opened.entries ++ more }
  pub each : AllByRecursion Fact more

-- what all workers did in some rounds
pub record WorkOn {N : Type 0} (links : N → Option Links) (faults : N → ℕ) (may_give : ℕ → Bool)
    (opened book : BookRecord) (workers workers_now : List WorkerRecord) (dialers dialers_now : List N) : Type 0 where
  pub grows : Grows (IsOfOne workers) opened book
  pub each : EachWorks links faults may_give opened book (IsFull book) workers workers_now dialers dialers_now
  pub workers_stay : length workers_now ≡ length workers
  pub dialers_stay : length dialers_now ≡ length dialers
  pub behind : StayBehind (length workers) dialers dialers_now
