-- A commissioning begins, a piece comes, and a frame is taken: each time it goes on.
use Rattle.std.proofs.Common.{◌≡◌, ℕ, List, [], ◌∷◌, ◌++◌, length, Option, Ok, inl, refl, sym, ap, subst, ◌∙◌, append_assoc, append-nil}
use Rattle.std.specs.Prelude.{IsSome, option_to_list}
use Rattle.std.specs.Io.KnownBytes.{Appends}
use Rattle.std.proofs.KnownBytes.{Appends-trans}
use Rattle.std.proofs.lemmas.List.{map-append}
use Rattle.std.proofs.lemmas.List.Concat.{flat_map-append}
use Rattle.world_traits.specs.Links.{Answer, Bytes, Link, received_bytes, answer_bytes, new_link, link_with_bytes, link_with_receipt}
use Rattle.mbap_frames.specs.declared.frame.Frame.{Frame}
use Rattle.mbap_frames.specs.Frame.{IsFrame, frame_spelling}
use Rattle.mbap_frames.specs.Stream.{IsUnfinished, frames_spelling}
use Rattle.mbap_frames.proofs.Streams.{all_frames, spelling-append}
use Rattle.commissioning.specs.declared.commission.Took.{Took}
use Rattle.commissioning.specs.declared.target.Target.{Target}
use Rattle.commissioning.specs.Stage.{Standing, found_at}
use Rattle.commissioning.specs.Asking.{start, asked}
use Rattle.commissioning.specs.Taking.{taken, answer, outcome}
use Rattle.commissioning.specs.Runs.{standing_after, requests, request_by}
use Rattle.commissioning.proofs.Moves.{standing_after-taken, requests-more}
use Rattle.commission_run.specs.Lines.{found_text}
use Rattle.commission_run.specs.Course.{AwaitsReply, EachAwaits}
use Rattle.commission_run.specs.Arriving.{gained_text}
use Rattle.commission_run.specs.Going.{IsGoing}
use Rattle.commission_run.proofs.Linked.{received-more, awaits-more}
use Rattle.commission_run.proofs.Stages.{still_on, gained}

-- the first request was sent on a new link
pub begun : (target : Target) (standing : Standing) → standing ≡ start target
    → IsGoing target standing [] [] (link_with_bytes (frames_spelling (option_to_list (asked standing))) (new_link target.port.host target.port.port))
begun target standing is = record {
  host = refl;
  port = refl;
  at = is;
  unrefused = ap (λ (s : Standing). outcome s.stage) is;
  each = tt;
  came = refl;
  sent = ap (λ (s : Standing). frames_spelling (option_to_list (asked s))) is;
  receives = tt;
  pieces = [];
  answers = refl;
}

-- a receive stands behind a whole request whose reply hasn't come
pub awaits : (target : Target) (standing : Standing) (held : List ℕ) (frames : List Frame) (link : Link) → IsGoing target standing held frames link → IsSome (asked standing)
    → IsUnfinished held → AwaitsReply target (received_bytes link) (length link.sent)
awaits target standing held frames link going asks unfinished = record {
  frames = frames;
  rest = held;
  stream = record { whole = going.came; each = going.each; end = inl unfinished };
  unfinished = unfinished;
  asks = subst (λ (s : Standing). IsSome (asked s)) going.at asks;
  sent = ap length going.sent;
}

-- it does so with one receive more
pub each-more : (target : Target) (standing : Standing) (held : List ℕ) (frames : List Frame) (link : Link) (answer : Answer) → IsGoing target standing held frames link → IsSome (asked standing)
    → IsUnfinished held → EachAwaits target [] (link_with_receipt answer link).receipts
each-more target standing held frames link answer going asks unfinished =
    awaits-more target [] link.receipts (record { answer = answer; sent_before = length link.sent }) going.receives (awaits target standing held frames link going asks unfinished)

-- what came is the frames, what is held, and what came just now
pub came-more : (target : Target) (standing : Standing) (held : List ℕ) (frames : List Frame) (link : Link) (answer : Answer) → IsGoing target standing held frames link
    → received_bytes (link_with_receipt answer link) ≡ frames_spelling frames ++ (held ++ answer_bytes answer)
came-more target standing held frames link answer going =
    received-more link answer ∙ ap (λ (t : List ℕ). t ++ answer_bytes answer) going.came ∙ append_assoc (frames_spelling frames) held (answer_bytes answer)

-- a piece came
pub with_piece : (target : Target) (standing : Standing) (held : List ℕ) (frames : List Frame) (link : Link) (piece : List ℕ) → IsGoing target standing held frames link → IsSome (asked standing)
    → IsUnfinished held → IsGoing target standing (held ++ piece) frames (link_with_receipt (Bytes piece) link)
with_piece target standing held frames link piece going asks unfinished = record {
  host = going.host;
  port = going.port;
  at = going.at;
  unrefused = going.unrefused;
  each = going.each;
  came = came-more target standing held frames link (Bytes piece) going;
  sent = going.sent;
  receives = each-more target standing held frames link (Bytes piece) going asks unfinished;
  pieces = going.pieces ++ piece ∷ [];
  answers = map-append (λ receipt. receipt.answer) link.receipts (record { answer = Bytes piece; sent_before = length link.sent } ∷ [])
      ∙ ap (λ (xs : List Answer). xs ++ Bytes piece ∷ []) going.answers ∙ sym (map-append Bytes going.pieces (piece ∷ []));
}

-- the frames with one more, and what is held behind it
pub came-frame : (target : Target) (standing : Standing) (held after : List ℕ) (frames : List Frame) (frame : Frame) (link : Link) → IsGoing target standing held frames link
    → held ≡ frame_spelling frame ++ after → received_bytes link ≡ frames_spelling (frames ++ frame ∷ []) ++ after
came-frame target standing held after frames frame link going is =
    going.came ∙ ap (λ (t : List ℕ). frames_spelling frames ++ t) (is ∙ ap (λ (t : List ℕ). t ++ after) (sym (append-nil (frame_spelling frame))))
    ∙ sym (spelling-append frames (frame ∷ []) after)

-- the standing behind a frame
pub at-frame : (target : Target) (standing : Standing) (held : List ℕ) (frames : List Frame) (frame : Frame) (link : Link) → IsGoing target standing held frames link → IsSome (asked standing)
    → taken standing frame ≡ standing_after target (frames ++ frame ∷ [])
at-frame target standing held frames frame link going asks =
    ap (λ (s : Standing). taken s frame) going.at ∙ sym (standing_after-taken target frames frame (subst (λ (s : Standing). IsSome (asked s)) going.at asks))

-- the requests with the one that a frame leads to
pub sent-frame : (target : Target) (standing : Standing) (held : List ℕ) (frames : List Frame) (frame : Frame) (link : Link) → IsGoing target standing held frames link → IsSome (asked standing)
    → link.sent ++ frames_spelling (request_by standing frame) ≡ frames_spelling (requests target (frames ++ frame ∷ []))
sent-frame target standing held frames frame link going asks =
    ap (λ (t : List ℕ). t ++ frames_spelling (request_by standing frame)) going.sent
    ∙ ap (λ (s : Standing). frames_spelling (requests target frames) ++ frames_spelling (request_by s frame)) going.at
    ∙ sym (flat_map-append frame_spelling (requests target frames) (request_by (standing_after target frames) frame))
    ∙ ap frames_spelling (sym (requests-more target frames frame (subst (λ (s : Standing). IsSome (asked s)) going.at asks)))

-- a frame was taken, and the request that it leads to was sent
pub with_frame : (target : Target) (standing : Standing) (held after : List ℕ) (frames : List Frame) (frame : Frame) (said : Took) (link : Link) → IsGoing target standing held frames link
    → IsSome (asked standing) → IsFrame frame → held ≡ frame_spelling frame ++ after → answer standing frame ≡ Ok said
    → IsGoing target (taken standing frame) after (frames ++ frame ∷ []) (link_with_bytes (frames_spelling (request_by standing frame)) link)
with_frame target standing held after frames frame said link going asks is_frame is says = record {
  host = going.host;
  port = going.port;
  at = at-frame target standing held frames frame link going asks;
  unrefused = still_on standing frame said going.unrefused says;
  each = all_frames frames (frame ∷ []) going.each (is_frame, tt);
  came = came-frame target standing held after frames frame link going is;
  sent = sent-frame target standing held frames frame link going asks;
  receives = going.receives;
  pieces = going.pieces;
  answers = going.answers;
}

-- the line of the points is written once they were found
pub written-more : (standing : Standing) (frame : Frame) (old mid new : Option (List ℕ)) → Appends old mid (found_text (found_at standing.stage))
    → Appends mid new (gained_text (found_at standing.stage) (found_at (taken standing frame).stage)) → Appends old new (found_text (found_at (taken standing frame).stage))
written-more standing frame old mid new wrote more =
    subst (λ (t : List ℕ). Appends old new t) (gained standing frame)
    (Appends-trans old mid new (found_text (found_at standing.stage)) (gained_text (found_at standing.stage) (found_at (taken standing frame).stage)) wrote more)
