use Rattle.std.proofs.Common.{◌≡◌}
use Rattle.ledger_desk.specs.Desk.{TestsLast}
use Rattle.worker_turn.specs.Desks.{RollsNone}
use Rattle.worker_turn.specs.Worker.{IsBetweenTurns}
use Rattle.plant_run.specs.Works.{WorksOn}
use Rattle.plant_run.specs.Rounds.{turns_left}
use Rattle.plant_run.proofs.turns.run_out.Given as goal

-- some turns were made
abbrev pub invariant-loop : goal.invariant-loop
invariant-loop g l = record {
  works : WorksOn (g.D.Desk.tests l.desk).may_tell (g.D.Desk.tests l.desk).was_full (g.K.Clock.may_give l.fn.clock) l.fn.worker.job
      (g.D.Desk.state l.fn.desk).made (g.D.Desk.state l.desk).made l.fn.worker l.worker (g.N.Dialer.links l.fn.dialer) (g.N.Dialer.links l.dialer)
      (g.N.Dialer.faults l.fn.dialer) (g.N.Dialer.faults l.dialer);
  rests : IsBetweenTurns l.worker.state.step;
  stays : RollsNone (g.D.Desk.state l.fn.desk) (g.D.Desk.state l.desk);
  last : TestsLast (g.D.Desk.tests l.fn.desk) (g.D.Desk.tests l.desk);
  kept : g.D.Desk.kept l.desk ≡ g.D.Desk.kept l.fn.desk;
}

-- each turn leaves fewer
abbrev pub decreases-loop : goal.decreases-loop
decreases-loop g l = turns_left l.worker
