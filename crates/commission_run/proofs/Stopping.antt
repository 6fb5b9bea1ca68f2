-- A commissioning stops: what stands on its link and in its output then.
use Rattle.std.proofs.Common.{◌≡◌, ℕ, Bool, false, cond, List, [], ◌∷◌, ◌++◌, length, map, take, Option, Some, Ok, Err, inr, refl, sym, ap, subst, ◌∙◌, append_assoc, append-nil}
use Rattle.std.specs.Prelude.{IsSome, is_some, IfSome, OnOk, OnErr, option_map, option_to_list}
use Rattle.std.specs.Io.KnownBytes.{Appends}
use Rattle.std.proofs.KnownBytes.{Appends-trans, Appends-nil}
use Rattle.std.proofs.lemmas.List.{map-append}
use Rattle.world_traits.specs.Links.{Answer, Bytes, Quiet, Closed, Failed, Link, Links, received_bytes, answer_bytes, new_link, link_with_bytes, link_with_receipt}
use Rattle.mbap_frames.specs.declared.frame.Frame.{Frame}
use Rattle.mbap_frames.specs.Frame.{IsFrame, frame_spelling}
use Rattle.mbap_frames.specs.Stream.{IsUnfinished, frames_spelling}
use Rattle.mbap_frames.proofs.Streams.{all_frames}
use Rattle.readback.specs.Frames.{read_pdu}
use Rattle.commissioning.specs.declared.fault.CommissionFault.{CommissionFault}
use Rattle.commissioning.specs.declared.found.Record702.{Record702}
use Rattle.commissioning.specs.declared.target.Target.{Target}
use Rattle.commissioning.specs.Stage.{Stage, Commissioned, Standing, IsOver, found_at}
use Rattle.commissioning.specs.Asking.{start, asked, asked_pdu, request_frame}
use Rattle.commissioning.specs.Taking.{is_skipped, taken, answer, outcome}
use Rattle.commissioning.specs.Runs.{standing_after, requests, request_by}
use Rattle.commission_run.specs.declared.stop.Stop.{Stop}
use Rattle.commission_run.specs.declared.stop.Stop.TheVariants.{WriteFailed, Refused}
use Rattle.commission_run.specs.declared.stop.Refusal.TheVariants as by
use Rattle.commission_run.specs.Lines.{found_text, end_text, passed_text, commissioned_line}
use Rattle.stream_io.specs.Streams.{AppendsFront}
use Rattle.commission_run.specs.Course.{answered}
use Rattle.commission_run.specs.Ends.{Outcome, IsSent, IsCause, IsWritten, last_answer, IsCourse}
use Rattle.frame_inbox.specs.declared.inbox.NoFrame.{NoFrame}
use Rattle.frame_inbox.specs.declared.inbox.NoFrame.TheVariants as none
use Rattle.frame_inbox.specs.Waiting.{IsAdvance}
use Rattle.commission_run.specs.Arriving.{CutsShort, IsHandled, StopsWait, gained_text, refusal_of}
use Rattle.commission_run.specs.Going.{IsGoing}
use Rattle.commission_run.proofs.Linked.{IsUp, IsOver as IsLinkOver, up_at_first, up_sends, up_receives, up_fails, up_ends}
use Rattle.commission_run.proofs.Stages.{text_asking, text_refused, none_refused, at_end, gained, refused, found_new, asked_next, answered-more}
use Rattle.commission_run.proofs.Going.{each-more, came-more, came-frame, at-frame, sent-frame, written-more}

-- a commissioning ended so over a link
abbrev pub Ended : Target → ℕ → Outcome → (told now : Option Links) → (old new : Option (List ℕ)) → Type 0
Ended target inverter outcome told now old new = (frames : List Frame) × (link : Link) × IsLinkOver link told now × IsCourse target inverter outcome frames link old new

-- what is due while a request is asked was written
text_now : (target : Target) (inverter : ℕ) (standing : Standing) (held : List ℕ) (frames : List Frame) (link : Link) (old new : Option (List ℕ)) → IsGoing target standing held frames link
    → IsSome (asked standing) → Appends old new (found_text (found_at standing.stage)) → Appends old new (passed_text inverter (standing_after target frames).stage)
text_now target inverter standing held frames link old new going asks wrote =
    subst (λ (s : Standing). Appends old new (passed_text inverter s.stage)) going.at (subst (λ (t : List ℕ). Appends old new t) (sym (text_asking inverter standing asks)) wrote)

-- a receive gave no bytes
silent : (target : Target) (inverter : ℕ) (stop : Stop) (said : Answer) (standing : Standing) (held : List ℕ) (frames : List Frame) (link : Link) (old new : Option (List ℕ))
    → answer_bytes said ≡ [] → last_answer (Err stop) ≡ said ∷ []
    → (link.sent ≡ frames_spelling (requests target frames) → IsSent target (Err stop) frames link.sent)
    → (IsSome (asked (standing_after target frames)) → IsCause target (Err stop) frames (received_bytes (link_with_receipt said link)))
    → (Appends old new (passed_text inverter (standing_after target frames).stage) → IsWritten (Err stop) (passed_text inverter (standing_after target frames).stage) old new)
    → IsGoing target standing held frames link → IsSome (asked standing) → IsUnfinished held → Appends old new (found_text (found_at standing.stage))
    → IsCourse target inverter (Err stop) frames (link_with_receipt said link) old new
silent target inverter stop said standing held frames link old new none last sent cause written going asks unfinished wrote = record {
  host = going.host;
  port = going.port;
  sent = sent going.sent;
  receives = each-more target standing held frames link said going asks unfinished;
  first = (going.each, held ++ answer_bytes said, came-more target standing held frames link said going);
  answers = (
    going.pieces,
    map-append (λ receipt. receipt.answer) link.receipts (record { answer = said; sent_before = length link.sent } ∷ [])
        ∙ ap (λ (xs : List Answer). xs ++ said ∷ []) going.answers ∙ ap (λ (xs : List Answer). map Bytes going.pieces ++ xs) (sym last),
  );
  cause = cause (subst (λ (s : Standing). IsSome (asked s)) going.at asks);
  written = written (text_now target inverter standing held frames link old new going asks wrote);
}

-- the link as it was, at an end that no receive answered
no_last : (target : Target) (standing : Standing) (held : List ℕ) (frames : List Frame) (link : Link) → IsGoing target standing held frames link
    → (pieces : List (List ℕ)) × (map (λ receipt. receipt.answer) link.receipts ≡ map Bytes pieces ++ [])
no_last target standing held frames link going = (going.pieces, going.answers ∙ sym (append-nil (map Bytes going.pieces)))

-- no frame came where the next was to be
pub stopped_by_advance : (why : NoFrame) (target : Target) (inverter : ℕ) (standing : Standing) (held after : List ℕ) (frames : List Frame) (link : Link) (told now next : Option Links) (old new : Option (List ℕ))
    → IsGoing target standing held frames link → IsUp link told now → IsSome (asked standing) → Appends old new (found_text (found_at standing.stage))
    → IsAdvance (Err why) held after now next → Ended target inverter (Err (Refused (refusal_of why))) told next old new
stopped_by_advance none.Quiet target inverter standing held after frames link told now next old new going up asks wrote (unfinished, is, stay) = (
  frames,
  link_with_receipt Quiet link,
  up_ends told next (link_with_receipt Quiet link) (up_receives told now next link Quiet up is),
  silent target inverter (Refused by.Quiet) Quiet standing held frames link old new refl refl (λ e. e) (λ e. e) (λ e. e) going asks unfinished wrote,
)
stopped_by_advance none.Closed target inverter standing held after frames link told now next old new going up asks wrote (unfinished, is, stay) = (
  frames,
  link_with_receipt Closed link,
  up_ends told next (link_with_receipt Closed link) (up_receives told now next link Closed up is),
  silent target inverter (Refused by.Closed) Closed standing held frames link old new refl refl (λ e. e) (λ e. e) (λ e. e) going asks unfinished wrote,
)
stopped_by_advance none.RecvFailed target inverter standing held after frames link told now next old new going up asks wrote (unfinished, is, stay) = (
  frames,
  link_with_receipt Failed link,
  up_fails told now next link up is,
  silent target inverter (Refused by.Recv) Failed standing held frames link old new refl refl (λ e. e) (λ e. e) (λ e. e) going asks unfinished wrote,
)
stopped_by_advance (none.BadFrame fault) target inverter standing held after frames link told now next old new going up asks wrote (bad, is, stay) = (
  frames,
  link,
  up_ends told next link (is ∙ up),
  record {
    host = going.host;
    port = going.port;
    sent = going.sent;
    receives = going.receives;
    first = (going.each, held, going.came);
    answers = no_last target standing held frames link going;
    cause = (
      subst (λ (s : Standing). IsSome (asked s)) going.at asks,
      (held, record { whole = going.came; each = going.each; end = inr (fault, bad) }, bad),
    );
    written = text_now target inverter standing held frames link old new going asks wrote;
  },
)

-- so it is stopped
pub stopped_by_wait : (stop : Stop) (target : Target) (inverter : ℕ) (standing : Standing) (held after : List ℕ) (frames : List Frame) (link : Link) (told now next : Option Links) (old new : Option (List ℕ))
    → IsGoing target standing held frames link → IsUp link told now → IsSome (asked standing) → Appends old new (found_text (found_at standing.stage))
    → StopsWait stop held after now next → Ended target inverter (Err stop) told next old new
stopped_by_wait stop target inverter standing held after frames link told now next old new going up asks wrote stops =
    subst (λ (s : Stop). Ended target inverter (Err s) told next old new) (sym stops.says)
    (stopped_by_advance stops.why target inverter standing held after frames link told now next old new going up asks wrote stops.advance)

-- the first bytes of the line of the points were written
front_passed : (inverter : ℕ) (standing : Standing) (frame : Frame) (old mid new : Option (List ℕ)) → Appends old mid (found_text (found_at standing.stage))
    → AppendsFront mid new (gained_text (found_at standing.stage) (found_at (taken standing frame).stage)) → AppendsFront old new (passed_text inverter (taken standing frame).stage)
front_passed inverter standing frame old mid new wrote (front, rest, is, more) =
    let had = found_text (found_at standing.stage) in
    let end = end_text inverter (taken standing frame).stage in (
      had ++ front,
      rest ++ end,
      ap (λ (t : List ℕ). t ++ end) (sym (gained standing frame) ∙ ap (λ (t : List ℕ). had ++ t) is ∙ sym (append_assoc had front rest)) ∙ append_assoc (had ++ front) rest end,
      Appends-trans old mid new had front wrote more,
    )

-- nothing is asked behind a frame that is refused
leads_none : (standing : Standing) (frame : Frame) (fault : CommissionFault) → answer standing frame ≡ Err fault → request_by standing frame ≡ []
leads_none standing frame fault says =
    let is = refused standing frame fault says in
    let next = taken standing frame in
    ap (λ (b : Bool). cond b [] (option_to_list (asked next))) is.1
    ∙ ap (λ (o : Option (List ℕ)). option_to_list (option_map (request_frame next.target next.number) o)) (none_refused next.target next.stage fault is.0)

-- what stands on the link behind a frame, at an end that no receive answered
behind_frame : (target : Target) (inverter : ℕ) (outcome : Outcome) (standing : Standing) (held after : List ℕ) (frames : List Frame) (frame : Frame) (link : Link) (more : List ℕ) (old new : Option (List ℕ))
    → last_answer outcome ≡ [] → IsGoing target standing held frames link → IsSome (asked standing) → IsFrame frame → held ≡ frame_spelling frame ++ after
    → IsSent target outcome (frames ++ frame ∷ []) (link.sent ++ more) → IsCause target outcome (frames ++ frame ∷ []) (received_bytes link)
    → IsWritten outcome (passed_text inverter (taken standing frame).stage) old new
    → IsCourse target inverter outcome (frames ++ frame ∷ []) (link_with_bytes more link) old new
behind_frame target inverter outcome standing held after frames frame link more old new last going asks is_frame is sent cause wrote = record {
  host = going.host;
  port = going.port;
  sent = sent;
  receives = going.receives;
  first = (all_frames frames (frame ∷ []) going.each (is_frame, tt), after, came-frame target standing held after frames frame link going is);
  answers = (going.pieces, going.answers ∙ sym (append-nil (map Bytes going.pieces)) ∙ ap (λ (xs : List Answer). map Bytes going.pieces ++ xs) (sym last));
  cause = cause;
  written = subst (λ (s : Standing). IsWritten outcome (passed_text inverter s.stage) old new) (at-frame target standing held frames frame link going asks) wrote;
}

-- a link without more bytes
no_more : (link : Link) → link_with_bytes [] link ≡ link
no_more link = ap (λ (bytes : List ℕ). record link { sent = bytes }) (append-nil link.sent)

-- a frame came, and it ended
pub stopped_by_frame : (stop : Stop) (target : Target) (inverter : ℕ) (standing : Standing) (held after : List ℕ) (frames : List Frame) (frame : Frame) (link : Link) (told now next : Option Links)
    (old mid new : Option (List ℕ)) → IsGoing target standing held frames link → IsUp link told now → IsSome (asked standing) → Appends old mid (found_text (found_at standing.stage))
    → IsFrame frame → held ≡ frame_spelling frame ++ after
    → IsHandled (Err stop) standing frame now next (gained_text (found_at standing.stage) (found_at (taken standing frame).stage)) mid new
    → Ended target inverter (Err stop) told next old new
stopped_by_frame WriteFailed target inverter standing held after frames frame link told now next old mid new going up asks wrote is_frame is (some, none, front, same) =
    let reply : is_skipped (standing_after target frames) frame ≡ false = subst (λ (s : Standing). is_skipped s frame ≡ false) going.at (found_new standing frame none some) in
    let at = at-frame target standing held frames frame link going asks in (
      frames ++ frame ∷ [],
      link_with_bytes [] link,
      up_ends told next (link_with_bytes [] link) (subst (λ (l : Link). IsUp l told next) (sym (no_more link)) (same ∙ up)),
      behind_frame target inverter (Err WriteFailed) standing held after frames frame link [] old new refl going asks is_frame is
          (append-nil link.sent ∙ going.sent ∙ ap frames_spelling (sym (answered-more target frames frame (subst (λ (s : Standing). IsSome (asked s)) going.at asks) reply)))
          (subst (λ (s : Standing). IsSome (found_at s.stage)) at some)
          (front_passed inverter standing frame old mid new wrote front),
    )
stopped_by_frame (Refused (by.Commission fault)) target inverter standing held after frames frame link told now next old mid new going up asks wrote is_frame is (says, more, same) =
    let asks' : IsSome (asked (standing_after target frames)) = subst (λ (s : Standing). IsSome (asked s)) going.at asks in
    let is_refused = refused standing frame fault says in (
      frames ++ frame ∷ [],
      link_with_bytes [] link,
      up_ends told next (link_with_bytes [] link) (subst (λ (l : Link). IsUp l told next) (sym (no_more link)) (same ∙ up)),
      behind_frame target inverter (Err (Refused (by.Commission fault))) standing held after frames frame link [] old new refl going asks is_frame is
          (ap (λ (fs : List Frame). link.sent ++ frames_spelling fs) (sym (leads_none standing frame fault says)) ∙ sent-frame target standing held frames frame link going asks)
          (frames, frame, refl, asks', subst (λ (s : Standing). answer s frame ≡ Err fault) going.at says)
          (subst (λ (t : List ℕ). Appends old new t) (sym (text_refused inverter (taken standing frame).stage fault is_refused.0)) (written-more standing frame old mid new wrote more)),
    )
stopped_by_frame (Refused by.Send) target inverter standing held after frames frame link told now next old mid new going up asks wrote is_frame is (request, leads, more, (count, short, cut)) =
    let asks' : IsSome (asked (standing_after target frames)) = subst (λ (s : Standing). IsSome (asked s)) going.at asks in
    let at = at-frame target standing held frames frame link going asks in
    let then = asked_next standing frame request leads in
    let reply : is_skipped (standing_after target frames) frame ≡ false = subst (λ (s : Standing). is_skipped s frame ≡ false) going.at then.reply in
    let asked_then : asked (standing_after target (frames ++ frame ∷ [])) ≡ Some request = subst (λ (s : Standing). asked s ≡ Some request) at then.asked_then in
    let piece = take count (frame_spelling request) in
    let some : IsSome (asked (taken standing frame)) = ap is_some then.asked_then in (
      frames ++ frame ∷ [],
      link_with_bytes piece link,
      up_ends told next (link_with_bytes piece link) (up_sends told now next link piece up cut),
      behind_frame target inverter (Err (Refused by.Send)) standing held after frames frame link piece old new refl going asks is_frame is (
        request,
        asked_then,
        count,
        short,
        ap (λ (t : List ℕ). t ++ piece) (going.sent ∙ ap frames_spelling (sym (answered-more target frames frame asks' reply))),
      )
          (ap is_some asked_then)
          (subst (λ (t : List ℕ). Appends old new t) (sym (text_asking inverter (taken standing frame) some)) (written-more standing frame old mid new wrote more)),
    )
stopped_by_frame (Refused by.Dial) target inverter standing held after frames frame link told now next old mid new going up asks wrote is_frame is none = absurd none
stopped_by_frame (Refused by.Recv) target inverter standing held after frames frame link told now next old mid new going up asks wrote is_frame is none = absurd none
stopped_by_frame (Refused by.Quiet) target inverter standing held after frames frame link told now next old mid new going up asks wrote is_frame is none = absurd none
stopped_by_frame (Refused by.Closed) target inverter standing held after frames frame link told now next old mid new going up asks wrote is_frame is none = absurd none
stopped_by_frame (Refused (by.BadFrame fault)) target inverter standing held after frames frame link told now next old mid new going up asks wrote is_frame is none = absurd none

first_cut : (stop : Stop) (target : Target) (inverter : ℕ) (told next : Option Links) (out : Option (List ℕ))
    → IfSome told (λ links. links.current ≡ Some (new_link target.port.host target.port.port)) → CutsShort stop (asked (start target)) told next
    → Ended target inverter (Err stop) told next out out
first_cut (Refused by.Send) target inverter told next out up (count, short, cut) =
    let request = request_frame target 1 (read_pdu 40000 2) in
    let piece = take count (frame_spelling request) in
    let link = new_link target.port.host target.port.port in (
      [],
      link_with_bytes piece link,
      up_ends told next (link_with_bytes piece link) (up_sends told told next link piece (up_at_first told link up) cut),
      record {
        host = refl;
        port = refl;
        sent = (request, refl, count, short, refl);
        receives = tt;
        first = (tt, [], refl);
        answers = ([], refl);
        cause = refl;
        written = Appends-nil out;
      },
    )
first_cut WriteFailed target inverter told next out up cut = absurd cut
first_cut (Refused by.Dial) target inverter told next out up cut = absurd cut
first_cut (Refused by.Recv) target inverter told next out up cut = absurd cut
first_cut (Refused by.Quiet) target inverter told next out up cut = absurd cut
first_cut (Refused by.Closed) target inverter told next out up cut = absurd cut
first_cut (Refused (by.BadFrame fault)) target inverter told next out up cut = absurd cut
first_cut (Refused (by.Commission fault)) target inverter told next out up cut = absurd cut

-- the first request was cut short
pub stopped_at_first : (stop : Stop) (target : Target) (inverter : ℕ) (standing : Standing) (told next : Option Links) (out : Option (List ℕ)) → standing ≡ start target
    → IfSome told (λ links. links.current ≡ Some (new_link target.port.host target.port.port)) → CutsShort stop (asked standing) told next
    → Ended target inverter (Err stop) told next out out
stopped_at_first stop target inverter standing told next out is up cut =
    first_cut stop target inverter told next out up (subst (λ (s : Standing). CutsShort stop (asked s) told next) is cut)

-- all requests are answered
none_left : (target : Target) (frames : List Frame) (found : Record702) → (standing_after target frames).stage ≡ Commissioned found → requests target frames ≡ answered target frames
none_left target frames found is =
    let standing = standing_after target frames in
    ap (λ (stage : Stage). answered target frames ++ option_to_list (option_map (request_frame standing.target standing.number) (asked_pdu standing.target stage))) is
    ∙ append-nil (answered target frames)

passed_all : (inverter : ℕ) (stage : Stage) (found : Record702) → stage ≡ Commissioned found → passed_text inverter stage ≡ found_text (found_at stage) ++ commissioned_line inverter
passed_all inverter stage found is = ap (λ (s : Stage). found_text (found_at stage) ++ end_text inverter s) is

-- all replies came: the line of the inverter is written, or the write of it failed
pub ended : (outcome : Outcome) (target : Target) (inverter : ℕ) (standing : Standing) (held : List ℕ) (frames : List Frame) (link : Link) (told now : Option Links) (old mid new : Option (List ℕ))
    → IsGoing target standing held frames link → IsUp link told now → IsOver standing.stage → Appends old mid (found_text (found_at standing.stage))
    → OnOk outcome (Appends mid new (commissioned_line inverter)) → OnErr outcome (AppendsFront mid new (commissioned_line inverter)) → OnErr outcome (outcome ≡ Err WriteFailed)
    → Ended target inverter outcome told now old new
ended (Ok done) target inverter standing held frames link told now old mid new going up over wrote all front failed =
    let end = at_end standing.stage going.unrefused over in
    let is : (standing_after target frames).stage ≡ Commissioned end.0 = subst (λ (s : Standing). s.stage ≡ Commissioned end.0) going.at end.1 in (
      frames,
      link,
      up_ends told now link up,
      record {
        host = going.host;
        port = going.port;
        sent = going.sent;
        receives = going.receives;
        first = (going.each, held, going.came);
        answers = no_last target standing held frames link going;
        cause = (end.0, is);
        written = subst (λ (s : Standing). Appends old new (passed_text inverter s.stage)) going.at
            (subst (λ (t : List ℕ). Appends old new t) (sym (passed_all inverter standing.stage end.0 end.1))
            (Appends-trans old mid new (found_text (found_at standing.stage)) (commissioned_line inverter) wrote all));
      },
    )
ended (Err WriteFailed) target inverter standing held frames link told now old mid new going up over wrote all (front, rest, is_front, more) failed =
    let end = at_end standing.stage going.unrefused over in
    let is : (standing_after target frames).stage ≡ Commissioned end.0 = subst (λ (s : Standing). s.stage ≡ Commissioned end.0) going.at end.1 in
    let had = found_text (found_at standing.stage) in (
      frames,
      link,
      up_ends told now link up,
      record {
        host = going.host;
        port = going.port;
        sent = going.sent ∙ ap frames_spelling (none_left target frames end.0 is);
        receives = going.receives;
        first = (going.each, held, going.came);
        answers = no_last target standing held frames link going;
        cause = ap (λ (s : Stage). is_some (found_at s)) is;
        written = subst (λ (s : Standing). AppendsFront old new (passed_text inverter s.stage)) going.at (
          had ++ front,
          rest,
          passed_all inverter standing.stage end.0 end.1 ∙ ap (λ (t : List ℕ). had ++ t) is_front ∙ sym (append_assoc had front rest),
          Appends-trans old mid new had front wrote more,
        );
      },
    )
ended (Err (Refused refusal)) target inverter standing held frames link told now old mid new going up over wrote all front failed = absurd cc
