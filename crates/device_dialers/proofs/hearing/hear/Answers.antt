use Rattle.std.proofs.Common.{ℕ, ◌+◌, ◌*◌, ◌<◌, ◌≤◌, ◌++◌, ◌∙◌, List, length, inl, inr, refl, sym, ap, subst, arith}
use Rattle.mbap_frames.specs.declared.frames.Got.TheVariants.{One}
use Rattle.mbap_frames.specs.Stream.{IsUnfinished}
use Rattle.inverter_server.proofs.Pieces.{fed_more, fed_one, loop_falls}
use Rattle.device_dialers.proofs.Gathering.{hears_more, hears_all, hears_end, read_alike}
use Rattle.device_dialers.proofs.hearing.hear.Goals as goal

pub returns-in-More-clause-heard : goal.returns-in-More-clause-heard
returns-in-More-clause-heard g c =
    let more = fed_more _ _ _ _ c.feed-fed.ensures.step c.in-More.is in
    hears_all _ _ _ _ _ _ _ _ _ _ _ c.piece.invariant.progress.1 c.piece.invariant.progress.2 more.0 more.1

pub returns-in-Bad-clause-heard : goal.returns-in-Bad-clause-heard
returns-in-Bad-clause-heard g c =
    hears_end _ _ _ _ _ _ _ _ _ _ _ _ _ c.piece.invariant.progress.1 c.piece.invariant.progress.2 refl c.new.ensures (inr (_, (c.feed-fed.ensures.bad _).0 c.in-Bad.is, refl))

pub piece-smaller : goal.piece-smaller
piece-smaller g c = loop_falls _ _ _ _ _ c.piece.invariant.kept c.feed-fed.ensures.step c.in-One.is

room_falls : (less rest room after bytes : ℕ) → less < rest → 260 * rest ≤ room → room ≤ after + bytes → bytes ≤ 260 → 260 * less ≤ after
room_falls less rest room after bytes falls had has fits = omega arith

pub piece-preserved : goal.piece-preserved
piece-preserved g c =
    let is = c.in-One.is ∙ ap One (sym c.in-One.frame-is) in
    let one = fed_one _ _ _ _ _ c.feed-fed.ensures.step is in
    let given = ap g.K.Clock.may_give c.piece.invariant.clock in
    let grows = c.add.ensures.left ∙ ap (λ (t : List ℕ). c.piece.replies.left ++ t) (c.as_slice.ensures.value ∙ c.frame_bytes.ensures.spelled) in
    let fits : length c.as_slice.result.now ≤ 260 = omega (arith, ap length c.as_slice.ensures.value, c.frame_bytes.ensures.fits) in
    record {
      kept = subst IsUnfinished (sym one.none_kept) (inl (omega arith));
      clock = c.answer.ensures.clock ∙ c.piece.invariant.clock;
      room = room_falls _ _ _ _ _ (loop_falls _ _ _ _ _ c.piece.invariant.kept c.feed-fed.ensures.step c.in-One.is) c.piece.invariant.room c.add.ensures.room fits;
      progress = hears_more _ _ _ _ _ _ _ _ _ _ _ _ _ _ _ _ _ _ _ given c.piece.invariant.progress.1 c.piece.invariant.progress.2 c.feed-fed.ensures.step is
          c.answer.ensures.number c.in-Some.ensures.answered c.answer.ensures.given c.answer.ensures.greatest grows;
    }

pub returns-in-None-clause-heard : goal.returns-in-None-clause-heard
returns-in-None-clause-heard g c =
    let is = c.in-One.is ∙ ap One (sym c.in-One.frame-is) in
    let one = fed_one _ _ _ _ _ c.feed-fed.ensures.step is in
    let given = ap g.K.Clock.may_give c.piece.invariant.clock in
    hears_end _ _ _ _ _ _ _ _ _ _ _ _ _ c.piece.invariant.progress.1 c.piece.invariant.progress.2 (c.in-None.ensures.left refl) one.none_kept
    (inl (_, (one.is_frame, _, one.whole), c.in-None.ensures.hung_up.0 refl, read_alike _ _ _ _ given c.answer.ensures.greatest))
