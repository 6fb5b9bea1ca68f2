use Rattle.std.proofs.Common.{◌≡◌, ℕ, ◌+◌, ◌<◌, ◌≤◌, false, cond, Some}
use Rattle.std.specs.Prelude.{slice_get}
use Rattle.plant_book.specs.Site.{inverters}
use Rattle.ledger_desk.specs.Plain.{life_of}
use Rattle.worker_turn.specs.Worker.{WorkerRecord}
use Rattle.plant_run.specs.Running.{EachWorker, IsOver, Differ}
use Rattle.plant_run.specs.Rounds.{IsWhole, IsSeat, WorkOn, book_of, all_left}
use Rattle.plant_run.proofs.plain.round.Given as goal

-- the workers before a place made their turns, and one of them is ready for another or all are over
abbrev pub invariant-loop-place : goal.invariant-loop-place
invariant-loop-place g l = record {
  whole : IsWhole l.desk;
  life : life_of l.desk ≡ life_of l.fn.desk;
  seats : EachWorker (IsSeat (inverters l.desk.book.site)) l.workers;
  differ : Differ l.workers;
  work : WorkOn g.N.Dialer.links g.N.Dialer.faults (g.K.Clock.may_give l.fn.clock) (book_of l.fn.desk) (book_of l.desk) l.fn.workers l.workers l.fn.dialers l.dialers;
  over : l.again ≡ false → (place : ℕ) (worker : WorkerRecord) → place < l.place → slice_get l.workers place ≡ Some worker → IsOver worker;
  fewer : all_left l.workers + cond l.again 1 0 ≤ all_left l.fn.workers;
}
