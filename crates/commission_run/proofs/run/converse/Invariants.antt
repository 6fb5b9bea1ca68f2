use Rattle.std.proofs.Common.{◌≡◌, ◌+◌, ◌*◌, ◌-◌, ◌<◌, List, length}
use Rattle.std.specs.Option.{option_map}
use Rattle.std.specs.Io.KnownBytes.{Appends}
use Rattle.world_traits.specs.Links.{Link}
use Rattle.mbap_frames.specs.declared.frame.Frame.{Frame}
use Rattle.commissioning.specs.Stage.{found_at}
use Rattle.commissioning.specs.Ending.{frames_left}
use Rattle.commission_run.specs.Lines.{found_text}
use Rattle.commission_run.specs.Course.{target_of}
use Rattle.commission_run.specs.Arriving.{with_current}
use Rattle.commission_run.specs.Going.{IsGoing}
use Rattle.commission_run.proofs.run.converse.Given as goal

-- no call failed; the frames taken and the link are as they are while requests are asked; the line of the points is written
abbrev pub invariant-loop-commission : goal.invariant-loop-commission
invariant-loop-commission g l = record {
  course : (frames : List Frame) × (link : Link) × IsGoing (target_of l.fn.job) l.commission l.inbox frames link
      × (g.N.Dialer.links l.dialer ≡ option_map (with_current link) (g.N.Dialer.links l.fn.dialer));
  written : Appends (g.O.Sink.taken l.fn.out) (g.O.Sink.taken l.out) (found_text (found_at l.commission.stage));
  dialer_kept : g.N.Dialer.faults l.dialer ≡ g.N.Dialer.faults l.fn.dialer;
  output_kept : g.O.Sink.faults l.out ≡ g.O.Sink.faults l.fn.out;
  stops : g.O.Sink.faults l.fn.out ≡ 0 → g.O.Sink.late l.out ≡ g.O.Sink.late l.fn.out;
  bound : length l.inbox < 520;
}

-- each frame leaves fewer that may come, and each piece less room
abbrev pub decreases-loop-commission : goal.decreases-loop-commission
decreases-loop-commission g l = 520 * frames_left l.commission + (519 - length l.inbox)
