use Rattle.std.proofs.Common.{◌≡◌, ◌≤◌, ◌++◌, ◌+◌, ◌*◌, List, length}
use Rattle.ledger_desk.specs.Desk.{EntersNone}
use Rattle.operator_console.specs.Comments.{reply_line}
use Rattle.operator_console.specs.Deeds.{Told}
use Rattle.operator_console.specs.Handling.{AreTold, goals_text}
use Rattle.ledger_desk.specs.Desk.{TestsLast}
use Rattle.operator_console.proofs.status.status_text.Given as goal

abbrev pub invariant-loop-inverter : goal.invariant-loop-inverter
invariant-loop-inverter g l =
    ((told : List Told) × (l.text ≡ reply_line l.reply ++ goals_text told)
    × AreTold (g.D.Desk.tests l.desk).may_tell l.inverter (g.D.Desk.state l.initial.desk) (g.D.Desk.state l.desk) told)
    × EntersNone (g.D.Desk.state l.initial.desk) (g.D.Desk.state l.desk)
    × TestsLast (g.D.Desk.tests l.initial.desk) (g.D.Desk.tests l.desk)
    × (g.D.Desk.kept l.desk ≡ g.D.Desk.kept l.initial.desk)
    × (length l.text ≤ 64 + 56 * l.inverter)
