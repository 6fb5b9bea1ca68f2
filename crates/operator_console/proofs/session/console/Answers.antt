use Rattle.operator_console.proofs.Ending.{lasts}
use Rattle.operator_console.proofs.Taking.{held_later}
use Rattle.operator_console.proofs.session.console.Goals as goal

pub returns-clause-transcript : goal.returns-clause-transcript
returns-clause-transcript g c =
    let held = c.follow-end.ensures.held in
    record {
      read = held.0;
      bytes = held.1;
      within = held.2;
      desk = g.D.Desk.state c.follow-end.new.desk;
      held = held_later c.follow-end.result _ _ _ _ _ _ held.0 _ _ _ (lasts _ _ _ c.close.ensures.last) c.close.ensures.last.full held.3;
      closed = c.close.ensures.closed;
    }
