use Rattle.std.proofs.Common.{◌≡◌, ◌≤◌, ◌++◌, ◌+◌, ℕ, List, length, Option}
use Rattle.ledger_desk.specs.Desk.{DeskState}
use Rattle.operator_console.specs.Deeds.{tests_of}
use Rattle.operator_console.specs.Handling.{IsTaking}
use Rattle.ledger_desk.specs.Desk.{TestsLast}
use Rattle.operator_console.proofs.lines.take_piece.Given as goal

abbrev pub invariant-loop-front : goal.invariant-loop-front
invariant-loop-front g l =
    ((before : List ℕ) × (l.piece ≡ before ++ l.rest)
    × ((begun : DeskState) (told : Option (List ℕ)) (read : List ℕ) → IsTaking
    (tests_of (g.K.Clock.may_give l.clock) (g.D.Desk.tests l.initial.desk))
    begun (g.D.Desk.state l.initial.desk) told (g.O.Sink.taken l.initial.out) read l.initial.lines.number l.initial.lines.held.items
    → IsTaking (tests_of (g.K.Clock.may_give l.clock) (g.D.Desk.tests l.desk))
    begun (g.D.Desk.state l.desk) told (g.O.Sink.taken l.out) (read ++ before) l.lines.number l.lines.held.items)
    × (l.lines.number ≤ l.initial.lines.number + length before))
    × TestsLast (g.D.Desk.tests l.initial.desk) (g.D.Desk.tests l.desk)
    × (g.D.Desk.kept l.desk ≡ g.D.Desk.kept l.initial.desk)
    × ((g.D.Desk.state l.desk).inverters ≡ (g.D.Desk.state l.initial.desk).inverters)
    × (l.lines.inverters ≡ l.initial.lines.inverters)
    × (g.O.Sink.faults l.out ≡ g.O.Sink.faults l.initial.out)
    × (g.O.Sink.faults l.initial.out ≡ 0 → g.O.Sink.late l.out ≡ g.O.Sink.late l.initial.out)

abbrev pub decreases-loop-front : goal.decreases-loop-front
decreases-loop-front g l = length l.rest
