use Rattle.std.proofs.Common.{◌≡◌, ◌+◌, ◌<◌, ◌≤◌, List, length}
use Rattle.std.specs.Prelude.{vec_len, vec_capacity}
use Rattle.world_traits.specs.Clocks.{AreGiven}
use Rattle.inverter_worker.specs.Runs.{RunStep}
use Rattle.inverter_worker.proofs.Turns.{steps_left, clock_left, requests_left}
use Rattle.worker_turn.specs.Doing.{world_of}
use Rattle.ledger_desk.specs.Desk.{TestsLast}
use Rattle.worker_turn.specs.Desks.{RollsNone}
use Rattle.worker_turn.specs.Acts.{held}
use Rattle.worker_turn.specs.Turning.{Follows}
use Rattle.worker_turn.proofs.turning.go_on.Given as goal

-- some outputs are done, and there is room for what may be read of the clock and be sent
abbrev pub invariant-loop-output : goal.invariant-loop-output
invariant-loop-output g l = record {
  later : List RunStep;
  follows : Follows g.L.Line.shares (g.D.Desk.tests l.desk) (g.D.Desk.state l.fn.desk).front (g.D.Desk.state l.desk).front l.job l.fn.begun.0 l.fn.begun.1 later l.state l.output l.fn.log.items l.log.items
      (world_of (g.D.Desk.state l.fn.desk).made (g.L.Line.links l.fn.line) (g.L.Line.faults l.fn.line) l.fn.watch.readings (g.L.Line.unread l.fn.line))
      (world_of (g.D.Desk.state l.desk).made (g.L.Line.links l.line) (g.L.Line.faults l.line) l.watch.readings (g.L.Line.unread l.line));
  last : TestsLast (g.D.Desk.tests l.fn.desk) (g.D.Desk.tests l.desk);
  stays : RollsNone (g.D.Desk.state l.fn.desk) (g.D.Desk.state l.desk);
  kept : g.D.Desk.kept l.desk ≡ g.D.Desk.kept l.fn.desk;
  line : g.L.Line.kept l.line ≡ g.L.Line.kept l.fn.line;
  ticket : l.ticket ≡ held l.state.step;
  clock : l.watch.clock ≡ l.fn.watch.clock;
  given : AreGiven (g.K.Clock.may_give l.fn.watch.clock) l.watch.readings;
  readings : length l.watch.readings + clock_left l.state.step ≤ 6;
  room : 0 < requests_left l.state.step → vec_len l.log + requests_left l.state.step ≤ vec_capacity l.log;
}

-- each row leaves fewer steps of a turn
abbrev pub decreases-loop-output : goal.decreases-loop-output
decreases-loop-output g l = steps_left l.state.skipped l.state.step
