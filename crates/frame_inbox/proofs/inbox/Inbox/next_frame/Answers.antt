use Rattle.std.proofs.Common.{Option, Ok, subst, ◌∙◌}
use Rattle.mbap_frames.specs.declared.frame.Frame.{Frame}
use Rattle.frame_inbox.specs.Waiting.{IsAdvance}
use Rattle.frame_inbox.proofs.Waiting.{one_more}
use Rattle.frame_inbox.proofs.inbox.Inbox.next_frame.Goals as goal

pub loop-frame-preserved : goal.loop-frame-preserved
loop-frame-preserved g c =
    let waiting = c.loop-frame.invariant.waiting in
    let now = g.N.Dialer.links c.loop-frame.dialer in
    let next = g.N.Dialer.links c.advance.new.dialer in
    let advance = subst (λ (f : Option Frame). IsAdvance (Ok f) c.loop-frame.self c.advance.new.self now next) c.in_default.is c.in_ok-frame.ensures.advance in
    record {
      waiting = one_more c.args.self.now c.loop-frame.self c.advance.new.self (g.N.Dialer.links c.args.dialer.now) now next waiting advance;
      faults = c.in_ok-frame.ensures.faults ∙ c.loop-frame.invariant.faults;
    }
