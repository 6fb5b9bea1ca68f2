use Rattle.std.proofs.Common.{◌≡◌}
use Rattle.plant_book.specs.Site.{inverters}
use Rattle.ledger_desk.specs.Plain.{life_of}
use Rattle.plant_run.specs.Running.{EachWorker, Differ}
use Rattle.plant_run.specs.Rounds.{IsWhole, IsSeat, WorkOn, book_of, all_left}
use Rattle.plant_run.proofs.plain.make_rounds.Given as goal

-- some rounds were made
abbrev pub invariant-loop : goal.invariant-loop
invariant-loop g l = record {
  whole : IsWhole l.desk;
  life : life_of l.desk ≡ life_of l.fn.desk;
  seats : EachWorker (IsSeat (inverters l.desk.book.site)) l.workers;
  differ : Differ l.workers;
  work : WorkOn g.N.Dialer.links g.N.Dialer.faults (g.K.Clock.may_give l.fn.clock) (book_of l.fn.desk) (book_of l.desk) l.fn.workers l.workers l.fn.dialers l.dialers;
}

-- each round leaves fewer turns
abbrev pub decreases-loop : goal.decreases-loop
decreases-loop g l = all_left l.workers
