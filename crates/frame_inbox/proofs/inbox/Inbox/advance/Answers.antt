use Rattle.std.proofs.Common.{◌≡◌, ℕ, ◌+◌, ◌-◌, drop, List, ◌++◌, refl, sym, subst, ◌∙◌, arith}
use Rattle.std.specs.List.{slice_range}
use Rattle.std.proofs.lemmas.List.{length-take}
use Rattle.mbap_frames.specs.declared.frame.Frame.{Frame}
use Rattle.mbap_frames.specs.Frame.{IsFrame, frame_spelling}
use Rattle.mbap_frames.specs.Feed.{IsFed, frames_of}
use Rattle.std.proofs.Common.{Err, ap}
use Rattle.std.proofs.lemmas.Result.{err_from_is_err_and}
use Rattle.frame_inbox.specs.declared.inbox.NoFrame.{NoFrame}
use Rattle.frame_inbox.proofs.Waiting.{by_receive}
use Rattle.mbap_frames.specs.Stream.{IsUnfinished, HasFault}
use Rattle.frame_inbox.proofs.Taking.{taken_off, kept_on, kept_over}
use Rattle.frame_inbox.proofs.inbox.Inbox.advance.Goals as goal

pub returns-in-One-clause-advance : goal.returns-in-One-clause-advance
returns-in-One-clause-advance g c =
    let inbox = c.self.inside in
    let fed = c.feed-fed.result in
    let step = subst (λ (t : List ℕ). IsFed inbox.frames t fed c.feed-fed.new.self) c.part.ensures c.feed-fed.ensures.step in
    let off = taken_off fed c.in-One.frame inbox.frames c.feed-fed.new.self inbox.piece inbox.begin inbox.end c.in-One.is
    (omega (arith, step.within, length-take (inbox.end - inbox.begin) (drop inbox.begin inbox.piece))) step in
    subst (λ (f : Frame). IsFrame f × (c.args.self.now ≡ frame_spelling f ++ (c.feed-fed.new.self
    ++ slice_range inbox.piece (inbox.begin + fed.used) inbox.end))
    × (g.N.Dialer.links c.args.dialer.now ≡ g.N.Dialer.links c.args.dialer.now)) (sym c.in-One.frame-is)
    (off.0, sym c.self.view_is ∙ off.1, refl)

pub returns-in_err-count-in-More-clause-advance : goal.returns-in_err-count-in-More-clause-advance
returns-in_err-count-in-More-clause-advance g c =
    let inbox = c.self.inside in
    let why = c.in_err-count-in-More.field-0.0 in
    let p = err_from_is_err_and c.from_residual.result c.from_residual.ensures.1 in
    let is : c.from_residual.result ≡ Err why = p.1 ∙ ap (λ (e : NoFrame). Err e) p.2 in
    let less : IsUnfinished c.args.self.now =
    subst IsUnfinished (ap (λ (t : List ℕ). inbox.frames ++ t) c.part.ensures ∙ c.self.view_is) (c.feed-fed.ensures.more.0 c.in-More.is) in
    let fed = c.feed-fed.result in
    let step = subst (λ (t : List ℕ). IsFed inbox.frames t fed c.feed-fed.new.self) c.part.ensures c.feed-fed.ensures.step in
    let stay = kept_over fed inbox.frames c.feed-fed.new.self inbox.piece c.receive.new.into inbox.begin inbox.end c.in-More.is
    c.self.invariant.0 (omega arith) step in
    rw is (by_receive why c.args.self.now _ _ _ less c.in_err-count-in-More.ensures.none (stay ∙ c.self.view_is))

pub returns-in-Bad-clause-advance : goal.returns-in-Bad-clause-advance
returns-in-Bad-clause-advance g c =
    let inbox = c.self.inside in
    let fed = c.feed-fed.result in
    let bytes = ap (λ (t : List ℕ). inbox.frames ++ t) c.part.ensures ∙ c.self.view_is in
    let fault : HasFault c.args.self.now c.in-Bad.fault =
    subst (λ (t : List ℕ). HasFault t c.in-Bad.fault) bytes ((c.feed-fed.ensures.bad c.in-Bad.fault).0 c.in-Bad.is) in
    let step = subst (λ (t : List ℕ). IsFed inbox.frames t fed c.feed-fed.new.self) c.part.ensures c.feed-fed.ensures.step in
    let stay = kept_on fed inbox.frames c.feed-fed.new.self inbox.piece inbox.begin inbox.end (ap frames_of c.in-Bad.is)
    (omega (arith, step.within, length-take (inbox.end - inbox.begin) (drop inbox.begin inbox.piece))) step in
    (fault, refl, stay ∙ c.self.view_is)
