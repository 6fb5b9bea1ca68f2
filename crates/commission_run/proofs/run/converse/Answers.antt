use Rattle.std.proofs.Common.{◌≡◌, ℕ, ◌+◌, ◌*◌, ◌-◌, ◌<◌, length, List, [], ◌∷◌, ◌++◌, refl, Option, Ok, Err, OnOk, OnErr, sym, ap, subst, ◌∙◌, arith}
use Rattle.std.specs.Prelude.{IsSome, is_some, option_to_list}
use Rattle.std.proofs.lemmas.Result.{err_from_is_err_and}
use Rattle.std.specs.Io.KnownBytes.{Appends}
use Rattle.std.proofs.KnownBytes.{Appends-nil}
use Rattle.world_traits.specs.Links.{Bytes, new_link, link_with_bytes, link_with_receipt}
use Rattle.mbap_frames.specs.declared.frame.Frame.{Frame}
use Rattle.mbap_frames.specs.Stream.{frames_spelling}
use Rattle.commissioning.specs.Stage.{Standing, found_at}
use Rattle.commissioning.specs.Asking.{asked}
use Rattle.commissioning.specs.Runs.{request_by}
use Rattle.commission_run.specs.declared.stop.Stop.{Stop}
use Rattle.commission_run.specs.Lines.{found_text}
use Rattle.stream_io.specs.Streams.{AppendsFront}
use Rattle.commission_run.specs.Course.{target_of}
use Rattle.commission_run.specs.Ends.{Outcome}
use Rattle.frame_inbox.specs.Waiting.{IsAdvance}
use Rattle.commission_run.specs.Arriving.{IsHandled, gained_text}
use Rattle.commission_run.specs.Going.{IsGoing}
use Rattle.commission_run.proofs.Linked.{up_at_first, up_sends, up_receives}
use Rattle.commission_run.proofs.Going.{begun, with_piece, with_frame, written-more}
use Rattle.commission_run.proofs.Stopping.{Ended, stopped_at_first, stopped_by_wait, stopped_by_frame, ended}
use Rattle.commission_run.proofs.run.converse.Goals as goal

pub returns-in_err-ask-clause-course : goal.returns-in_err-ask-clause-course
returns-in_err-ask-clause-course g c =
    let target = target_of c.args.job in
    let told = g.N.Dialer.links c.args.dialer.now in
    let next = g.N.Dialer.links c.ask.new.dialer in
    let out = g.O.Sink.taken c.args.out.now in
    let p = err_from_is_err_and c.from_residual.result c.from_residual.ensures.1 in
    let is : c.from_residual.result ≡ Err c.in_err-ask.field-0.0 = p.1 ∙ ap (λ (e : Stop). Err e) p.2 in
    subst (λ (o : Outcome). Ended target c.args.job.inverter o told next out out) (sym is)
    (stopped_at_first c.in_err-ask.field-0.0 target c.args.job.inverter c.new-commission.result told next out c.new-commission.ensures c.requires.up c.in_err-ask.ensures.short)

pub loop-commission-init : goal.loop-commission-init
loop-commission-init g c =
    let target = target_of c.args.job in
    let link = new_link c.args.job.port.host c.args.job.port.port in
    let told = g.N.Dialer.links c.args.dialer.now in
    let standing = c.new-commission.result in
    record {
      course = (
        [],
        link_with_bytes (frames_spelling (option_to_list (asked standing))) link,
        subst (λ (held : List ℕ). IsGoing target standing held [] (link_with_bytes (frames_spelling (option_to_list (asked standing))) link)) (sym c.new-inbox.ensures)
            (begun target standing c.new-commission.ensures),
        up_sends told told (g.N.Dialer.links c.ask.new.dialer) link (frames_spelling (option_to_list (asked standing))) (up_at_first told link c.requires.up) c.in_ok-ask.ensures.sent,
      );
      written = subst (λ (s : Standing). Appends (g.O.Sink.taken c.args.out.now) (g.O.Sink.taken c.args.out.now) (found_text (found_at s.stage))) (sym c.new-commission.ensures)
          (Appends-nil (g.O.Sink.taken c.args.out.now));
      dialer_kept = c.in_ok-ask.ensures.cause.kept;
      output_kept = refl;
      stops = λ none. refl;
      bound = subst (λ (held : List ℕ). length held < 520) (sym c.new-inbox.ensures) (omega arith);
    }

pub returns-in_err-frame-clause-course : goal.returns-in_err-frame-clause-course
returns-in_err-frame-clause-course g c =
    let asks : IsSome (asked c.loop-commission.commission) = ap is_some (sym c.next.ensures.request) ∙ sym c.loop-commission-test.ensures in
    let course = c.loop-commission.invariant.course in
    let target = target_of c.args.job in
    let told = g.N.Dialer.links c.args.dialer.now in
    let now = g.N.Dialer.links c.loop-commission.dialer in
    let next = g.N.Dialer.links c.advance.new.dialer in
    let old = g.O.Sink.taken c.args.out.now in
    let new = g.O.Sink.taken c.loop-commission.out in
    let p = err_from_is_err_and c.from_residual-in_err-frame.result c.from_residual-in_err-frame.ensures.1 in
    let is : c.from_residual-in_err-frame.result ≡ Err c.in_err-frame.field-0.0 = p.1 ∙ ap (λ (e : Stop). Err e) p.2 in
    subst (λ (o : Outcome). Ended target c.args.job.inverter o told next old new) (sym is)
    (stopped_by_wait c.in_err-frame.field-0.0 target c.args.job.inverter c.loop-commission.commission c.loop-commission.inbox c.advance.new.inbox course.0 course.1
    told now next old new course.2 course.3 asks c.loop-commission.invariant.written c.in_err-frame.ensures.none)

pub loop-commission-preserved : goal.loop-commission-preserved
loop-commission-preserved g c =
    let asks : IsSome (asked c.loop-commission.commission) = ap is_some (sym c.next.ensures.request) ∙ sym c.loop-commission-test.ensures in
    let course = c.loop-commission.invariant.course in
    let target = target_of c.args.job in
    let now = g.N.Dialer.links c.loop-commission.dialer in
    let next = g.N.Dialer.links c.advance.new.dialer in
    let advance = subst (λ (f : Option Frame). IsAdvance (Ok f) c.loop-commission.inbox c.advance.new.inbox now next) c.in_default.is c.in_ok-frame.ensures.advance in
    let link = link_with_receipt (Bytes advance.1) course.1 in
    record {
      course = (
        course.0,
        link,
        subst (λ (held : List ℕ). IsGoing target c.loop-commission.commission held course.0 link) (sym advance.3)
            (with_piece target c.loop-commission.commission c.loop-commission.inbox course.0 course.1 advance.1 course.2 asks advance.0),
        up_receives (g.N.Dialer.links c.args.dialer.now) now next course.1 (Bytes advance.1) course.3 advance.4,
      );
      written = c.loop-commission.invariant.written;
      dialer_kept = c.in_ok-frame.ensures.cause.kept ∙ c.loop-commission.invariant.dialer_kept;
      output_kept = c.loop-commission.invariant.output_kept;
      stops = c.loop-commission.invariant.stops;
      bound = c.in_ok-frame.ensures.bound;
    }

fewer : (a b m n : ℕ) → a < b → 520 * a + (519 - m) < 520 * b + (519 - n)
fewer a b m n less = omega arith

pub loop-commission-smaller-in-Continue-branch-4 : goal.loop-commission-smaller-in-Continue-branch-4
loop-commission-smaller-in-Continue-branch-4 g c = fewer _ _ _ _ c.take.ensures.ends

pub loop-commission-preserved-in-Continue-branch-4 :
    goal.loop-commission-preserved-in-Continue-branch-4
loop-commission-preserved-in-Continue-branch-4 g c =
    let target = target_of c.args.job in
    let standing = c.loop-commission.commission in
    let asks : IsSome (asked standing) = ap is_some (sym c.next.ensures.request) ∙ sym c.loop-commission-test.ensures in
    let course = c.loop-commission.invariant.course in
    let advance = subst (λ (f : Option Frame). IsAdvance (Ok f) c.loop-commission.inbox c.advance.new.inbox (g.N.Dialer.links c.loop-commission.dialer)
    (g.N.Dialer.links c.advance.new.dialer)) c.in-Some.is c.in_ok-frame.ensures.advance in
    let handled = c.in_ok-take.ensures.handled in
    let bytes = frames_spelling (request_by standing c.in-Some.frame) in
    record {
      course = (
        course.0 ++ c.in-Some.frame ∷ [],
        link_with_bytes bytes course.1,
        subst (λ (s : Standing). IsGoing target s c.advance.new.inbox (course.0 ++ c.in-Some.frame ∷ []) (link_with_bytes bytes course.1)) (sym c.in_ok-take.ensures.step)
            (with_frame target standing c.loop-commission.inbox c.advance.new.inbox course.0 c.in-Some.frame handled.0 course.1 course.2 asks advance.0 advance.1 handled.1),
        up_sends (g.N.Dialer.links c.args.dialer.now) (g.N.Dialer.links c.advance.new.dialer) (g.N.Dialer.links c.take.new.dialer) course.1 bytes
            (advance.2 ∙ course.3) handled.3,
      );
      written = subst (λ (s : Standing). Appends (g.O.Sink.taken c.args.out.now) (g.O.Sink.taken c.take.new.out) (found_text (found_at s.stage))) (sym c.in_ok-take.ensures.step)
          (written-more standing c.in-Some.frame (g.O.Sink.taken c.args.out.now) (g.O.Sink.taken c.loop-commission.out) (g.O.Sink.taken c.take.new.out) c.loop-commission.invariant.written
          (subst (λ (s : Standing). Appends (g.O.Sink.taken c.loop-commission.out) (g.O.Sink.taken c.take.new.out) (gained_text (found_at standing.stage) (found_at s.stage)))
          c.in_ok-take.ensures.step handled.2));
      dialer_kept = c.in_ok-take.ensures.dialer_faults.kept ∙ c.in_ok-frame.ensures.cause.kept ∙ c.loop-commission.invariant.dialer_kept;
      output_kept = c.in_ok-take.ensures.output_faults.kept ∙ c.loop-commission.invariant.output_kept;
      stops = λ none. c.in_ok-take.ensures.stops (c.loop-commission.invariant.output_kept ∙ none) ∙ c.loop-commission.invariant.stops none;
      bound = c.in_ok-frame.ensures.bound;
    }

pub returns-in_err-take-clause-course : goal.returns-in_err-take-clause-course
returns-in_err-take-clause-course g c =
    let asks : IsSome (asked c.loop-commission.commission) = ap is_some (sym c.next.ensures.request) ∙ sym c.loop-commission-test.ensures in
    let course = c.loop-commission.invariant.course in
    let target = target_of c.args.job in
    let standing = c.loop-commission.commission in
    let told = g.N.Dialer.links c.args.dialer.now in
    let now = g.N.Dialer.links c.advance.new.dialer in
    let next = g.N.Dialer.links c.take.new.dialer in
    let old = g.O.Sink.taken c.args.out.now in
    let mid = g.O.Sink.taken c.loop-commission.out in
    let new = g.O.Sink.taken c.take.new.out in
    let advance = subst (λ (f : Option Frame). IsAdvance (Ok f) c.loop-commission.inbox c.advance.new.inbox (g.N.Dialer.links c.loop-commission.dialer) now)
    c.in-Some.is c.in_ok-frame.ensures.advance in
    let handled = subst (λ (s : Standing). IsHandled (Err c.in_err-take.field-0.0) standing c.in-Some.frame now next (gained_text (found_at standing.stage) (found_at s.stage)) mid new)
    c.in_err-take.ensures.step c.in_err-take.ensures.handled in
    let p = err_from_is_err_and c.from_residual-in_err-take.result c.from_residual-in_err-take.ensures.1 in
    let is : c.from_residual-in_err-take.result ≡ Err c.in_err-take.field-0.0 = p.1 ∙ ap (λ (e : Stop). Err e) p.2 in
    subst (λ (o : Outcome). Ended target c.args.job.inverter o told next old new) (sym is)
    (stopped_by_frame c.in_err-take.field-0.0 target c.args.job.inverter standing c.loop-commission.inbox c.advance.new.inbox course.0 c.in-Some.frame course.1
    told now next old mid new course.2 (advance.2 ∙ course.3) asks c.loop-commission.invariant.written advance.0 advance.1 handled)

pub returns-clause-course : goal.returns-clause-course
returns-clause-course g c =
    let target = target_of c.args.job in
    let standing = c.loop-commission.commission in
    let over = c.next.ensures.none.0 (sym c.is_some.ensures ∙ c.loop-commission-test.false) in
    let course = c.loop-commission.invariant.course in
    let mid = g.O.Sink.taken c.loop-commission.out in
    let new = g.O.Sink.taken c.write_line.new.out in
    ended c.write_line.result target c.args.job.inverter standing c.loop-commission.inbox course.0 course.1 (g.N.Dialer.links c.args.dialer.now) (g.N.Dialer.links c.loop-commission.dialer)
    (g.O.Sink.taken c.args.out.now) mid new course.2 course.3 over c.loop-commission.invariant.written
    (subst (λ (t : List ℕ). OnOk c.write_line.result (Appends mid new t)) c.commissioned_text.ensures c.write_line.ensures.all)
    (subst (λ (t : List ℕ). OnErr c.write_line.result (AppendsFront mid new t)) c.commissioned_text.ensures c.write_line.ensures.front)
    c.write_line.ensures.failed
