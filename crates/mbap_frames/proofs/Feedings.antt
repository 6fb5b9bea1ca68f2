-- What any list of calls makes of a stream.
use Rattle.std.proofs.Common.{◌≡◌, ℕ, inl, inr, List, [], ◌∷◌, ◌++◌, take, drop, sym, ap, ◌∙◌, append_assoc, arith}
use Rattle.std.specs.List.{AllByRecursion}
use Rattle.std.proofs.lemmas.List.{append-nil, append_cancel_right, take-append-drop}
use Rattle.std.proofs.lemmas.List.Concat.{flat_map-append}
use Rattle.mbap_frames.specs.declared.frame.Frame.{Frame}
use Rattle.mbap_frames.specs.declared.frames.Got.{Got}
use Rattle.mbap_frames.specs.declared.frames.Got.TheVariants.{More, One, Bad}
use Rattle.mbap_frames.specs.declared.frames.Fed.{Fed}
use Rattle.mbap_frames.specs.Frame.{IsFrame, frame_spelling}
use Rattle.mbap_frames.specs.Stream.{IsRest, IsStream, frames_spelling}
use Rattle.mbap_frames.specs.Feed.{IsFed, Leaves, Feeding, AreFeedings, frames_of, used_bytes, stream_of, frames_among}
use Rattle.mbap_frames.proofs.Streams.{all_frames, spelling-append, first_frames, one_reading}

-- what a call leaves is a rest, and what it hands out are frames
rest_left : (got : Got) (after unused : List ℕ) → Leaves got after unused → IsRest after
rest_left More after unused leaves = inl leaves.0
rest_left (One frame) after unused leaves = rw leaves.1 (inl (inl (omega arith)))
rest_left (Bad fault) after unused leaves = inr (fault, leaves.0)

frames_left : (got : Got) (after unused : List ℕ) → Leaves got after unused → AllByRecursion IsFrame (frames_of got)
frames_left More after unused leaves = tt
frames_left (One frame) after unused leaves = (leaves.0, tt)
frames_left (Bad fault) after unused leaves = tt

-- the bytes that a call used
used_of_call : (before piece : List ℕ) (fed : Fed) (after : List ℕ) → IsFed before piece fed after → before ++ take fed.used piece ≡ frames_spelling (frames_of fed.got) ++ after
used_of_call before piece fed after call =
    let both : (before ++ take fed.used piece) ++ drop fed.used piece ≡ (frames_spelling (frames_of fed.got) ++ after) ++ drop fed.used piece = append_assoc before (take fed.used piece) (drop fed.used piece) ∙ ap (λ (t : List ℕ). before ++ t) (take-append-drop fed.used piece) ∙ sym call.stream in
    append_cancel_right (before ++ take fed.used piece) (frames_spelling (frames_of fed.got) ++ after) (drop fed.used piece) both

pub record Reads (before : List ℕ) (feedings : List Feeding) (after : List ℕ) : Type 0 where
  pub stream : before ++ stream_of feedings ≡ frames_spelling (frames_among feedings) ++ after
  pub each : AllByRecursion IsFrame (frames_among feedings)
  pub end : IsRest after

pub calls_read : (before : List ℕ) (feedings : List Feeding) (after : List ℕ) → IsRest before → AreFeedings before feedings after → Reads before feedings after
calls_read before [] after rest are = record { stream = append-nil before ∙ are; each = tt; end = rw (← are) rest }
calls_read before (call ∷ feedings) after rest are =
    let between = are.0 in
    let more = calls_read between feedings after (rest_left call.fed.got between _ are.1.leaves) are.2 in
    let one = used_of_call before call.piece call.fed between are.1 in
    record {
      stream = sym (append_assoc before (used_bytes call) (stream_of feedings))
          ∙ ap (λ (t : List ℕ). t ++ stream_of feedings) one
          ∙ append_assoc (frames_spelling (frames_of call.fed.got)) between (stream_of feedings)
          ∙ ap (λ (t : List ℕ). frames_spelling (frames_of call.fed.got) ++ t) more.stream
          ∙ sym (append_assoc (frames_spelling (frames_of call.fed.got)) (frames_spelling (frames_among feedings)) after)
          ∙ ap (λ (t : List ℕ). t ++ after) (sym (flat_map-append frame_spelling (frames_of call.fed.got) (frames_among feedings)));
      each = all_frames (frames_of call.fed.got) (frames_among feedings) (frames_left call.fed.got between _ are.1.leaves) more.each;
      end = more.end;
    }

nothing_is_rest : IsRest []
nothing_is_rest = inl (inl (omega arith))

pub calls_are_stream : (feedings : List Feeding) (kept : List ℕ) → AreFeedings [] feedings kept → IsStream (stream_of feedings) (frames_among feedings) kept
calls_are_stream feedings kept are =
    let reads = calls_read [] feedings kept nothing_is_rest are in
    record { whole = reads.stream; each = reads.each; end = reads.end }

pub calls_are_first : (feedings : List Feeding) (kept unread : List ℕ) (frames : List Frame) (rest : List ℕ) → AreFeedings [] feedings kept → IsStream (stream_of feedings ++ unread) frames rest
    → (later : List Frame) × (frames ≡ frames_among feedings ++ later) × (kept ++ unread ≡ frames_spelling later ++ rest)
calls_are_first feedings kept unread frames rest are stream =
    let reads = calls_read [] feedings kept nothing_is_rest are in
    let first = first_frames (frames_among feedings) frames (kept ++ unread) rest reads.each stream.each stream.end
    (sym (append_assoc (frames_spelling (frames_among feedings)) kept unread) ∙ ap (λ (t : List ℕ). t ++ unread) (sym reads.stream) ∙ stream.whole) in
    (first.later, first.frames_are, first.rest_is)

pub any_cut : (feedings others : List Feeding) (kept end : List ℕ) → AreFeedings [] feedings kept → AreFeedings [] others end → stream_of feedings ≡ stream_of others
    → (frames_among feedings ≡ frames_among others) × (kept ≡ end)
any_cut feedings others kept end x y same =
    one_reading (stream_of others) (frames_among feedings) (frames_among others) kept end (rw (← same) (calls_are_stream feedings kept x)) (calls_are_stream others end y)

-- One call puts the frame that it hands out behind known ones.
pub one_more : (frames : List Frame) (kept piece after : List ℕ) (fed : Fed) → AllByRecursion IsFrame frames → IsFed kept piece fed after
    → AllByRecursion IsFrame (frames ++ frames_of fed.got) × (frames_spelling frames ++ kept ++ piece ≡ frames_spelling (frames ++ frames_of fed.got) ++ after ++ drop fed.used piece)
one_more frames kept piece after fed each call =
    let got = frames_of fed.got in
    let unused = drop fed.used piece in (
      all_frames frames got each (frames_left fed.got after unused call.leaves),
      append_assoc (frames_spelling frames) kept piece
          ∙ ap (λ (t : List ℕ). frames_spelling frames ++ t) (sym call.stream ∙ append_assoc (frames_spelling got) after unused)
          ∙ sym (spelling-append frames got (after ++ unused))
          ∙ sym (append_assoc (frames_spelling (frames ++ got)) after unused),
    )

-- So does any list of calls.
pub calls_go_on : (stream : List ℕ) (frames : List Frame) (feedings : List Feeding) (kept after : List ℕ) → IsStream stream frames kept → AreFeedings kept feedings after
    → IsStream (stream ++ stream_of feedings) (frames ++ frames_among feedings) after
calls_go_on stream frames feedings kept after is are =
    let reads = calls_read kept feedings after is.end are in
    record {
      whole = ap (λ (t : List ℕ). t ++ stream_of feedings) is.whole
          ∙ append_assoc (frames_spelling frames) kept (stream_of feedings)
          ∙ ap (λ (t : List ℕ). frames_spelling frames ++ t) reads.stream
          ∙ sym (spelling-append frames (frames_among feedings) after);
      each = all_frames frames (frames_among feedings) is.each reads.each;
      end = reads.end;
    }
