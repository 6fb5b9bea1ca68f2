use Rattle.std.proofs.Common.{◌≡◌, ◌≤◌, ◌+◌, ℕ, List, length}
use Rattle.std.specs.Io.KnownBytes.{Consumes}
use Rattle.operator_console.specs.Deeds.{tests_of}
use Rattle.operator_console.specs.Handling.{IsTaking}
use Rattle.ledger_desk.specs.Desk.{TestsLast}
use Rattle.operator_console.proofs.session.read_lines.Given as goal

abbrev pub invariant-loop-left : goal.invariant-loop-left
invariant-loop-left g l =
    ((read : List ℕ) × Consumes (g.C.Source.left l.initial.input) (g.C.Source.left l.input) read × (length read + l.left ≡ 1048576)
    × IsTaking (tests_of (g.K.Clock.may_give l.clock) (g.D.Desk.tests l.desk))
    (g.D.Desk.state l.initial.desk) (g.D.Desk.state l.desk) (g.O.Sink.taken l.initial.out) (g.O.Sink.taken l.out) read l.lines.number l.lines.held.items)
    × TestsLast (g.D.Desk.tests l.initial.desk) (g.D.Desk.tests l.desk)
    × (g.D.Desk.kept l.desk ≡ g.D.Desk.kept l.initial.desk)
    × ((g.D.Desk.state l.desk).inverters ≡ (g.D.Desk.state l.initial.desk).inverters)
    × (l.lines.inverters ≡ l.initial.lines.inverters)
    × (l.lines.number + l.left ≤ 1048576)
    × (g.C.Source.faults l.input ≡ g.C.Source.faults l.initial.input)
    × (g.O.Sink.faults l.out ≡ g.O.Sink.faults l.initial.out)
    × (g.O.Sink.faults l.initial.out ≡ 0 → g.O.Sink.late l.out ≡ g.O.Sink.late l.initial.out)

abbrev pub decreases-loop-left : goal.decreases-loop-left
decreases-loop-left g l = l.left
