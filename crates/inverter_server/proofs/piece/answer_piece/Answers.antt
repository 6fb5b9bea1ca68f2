use Rattle.std.proofs.Common.{◌∙◌, sym, ap, subst, inl, arith}
use Rattle.mbap_frames.specs.declared.frames.Got.TheVariants.{One}
use Rattle.mbap_frames.specs.Stream.{IsUnfinished}
use Rattle.inverter_server.proofs.Pieces.{fed_one, loop_goes_on, loop_ends}
use Rattle.inverter_server.proofs.piece.answer_piece.Goals as goal

pub loop-frame-preserved : goal.loop-frame-preserved
loop-frame-preserved g c =
    let is = c.in-One.is ∙ ap One (sym c.in-One.frame-is) in
    let one = fed_one _ _ _ _ _ c.feed-fed.ensures.step is in
    let given = ap g.K.Clock.may_give c.loop-frame.invariant.clock in
    record {
      kept = subst IsUnfinished (sym one.none_kept) (inl (omega arith));
      clock = c.answer_frame.ensures.clock ∙ c.loop-frame.invariant.clock;
      progress = loop_goes_on _ _ _ _ _ _ _ _ _ _ _ _ given c.loop-frame.invariant.progress.1 c.feed-fed.ensures.step is
          c.answer_frame.ensures.number c.in-GoesOn.ensures.handled;
    }

pub returns-in-Ends-clause-handled : goal.returns-in-Ends-clause-handled
returns-in-Ends-clause-handled g c =
    let is = c.in-One.is ∙ ap One (sym c.in-One.frame-is) in
    let given = ap g.K.Clock.may_give c.loop-frame.invariant.clock in
    loop_ends _ _ _ _ _ _ _ _ _ _ _ _ given c.loop-frame.invariant.progress.1 c.feed-fed.ensures.step is
    c.answer_frame.ensures.number c.in-Ends.ensures.handled
