use Rattle.std.proofs.Common.{◌≡◌, ◌-◌, length}
use Rattle.frame_inbox.proofs.Waiting.{IsWaiting}
use Rattle.frame_inbox.proofs.inbox.Inbox.next_frame.Given as goal

-- pieces came, and no receive failed
abbrev pub invariant-loop-frame : goal.invariant-loop-frame
invariant-loop-frame g l = record {
  waiting : IsWaiting l.fn.self l.self (g.N.Dialer.links l.fn.dialer) (g.N.Dialer.links l.dialer);
  faults : g.N.Dialer.faults l.dialer ≡ g.N.Dialer.faults l.fn.dialer;
}

-- each piece leaves less room
abbrev pub decreases-loop-frame : goal.decreases-loop-frame
decreases-loop-frame g l = 520 - length l.self
