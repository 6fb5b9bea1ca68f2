-- A frame is taken off the unread bytes.
use Rattle.std.proofs.Common.{◌≡◌, ℕ, ◌+◌, ◌-◌, ◌≤◌, List, [], ◌++◌, length, take, drop, sym, ap, subst, ◌∙◌, append_assoc, append-nil, arith}
use Rattle.std.specs.List.{slice_range}
use Rattle.std.proofs.lemmas.List.{drop-drop, drop-take, length-drop, length-take}
use Rattle.mbap_frames.specs.declared.frame.Frame.{Frame}
use Rattle.mbap_frames.specs.declared.frames.Got.{Got}
use Rattle.mbap_frames.specs.declared.frames.Got.TheVariants.{More, One}
use Rattle.mbap_frames.specs.declared.frames.Fed.{Fed}
use Rattle.mbap_frames.specs.Frame.{IsFrame, frame_spelling}
use Rattle.mbap_frames.specs.Stream.{IsUnfinished, frames_spelling}
use Rattle.mbap_frames.specs.Feed.{IsFed, frames_of, Leaves}

-- the bytes behind those that were used
part_behind : (buffer : List ℕ) (begin end used : ℕ) → begin + used ≤ end
    → drop used (slice_range buffer begin end) ≡ slice_range buffer (begin + used) end
part_behind buffer begin end used le =
    let rest = end - (begin + used) in
    ap (λ (n : ℕ). drop used (take n (drop begin buffer))) (omega arith)
    ∙ drop-take used rest (drop begin buffer) ∙ ap (λ (t : List ℕ). take rest t) (drop-drop used begin buffer)

-- the frame stood in front of what is unread still
pub taken_off : (fed : Fed) (frame : Frame) (kept after buffer : List ℕ) (begin end : ℕ) → fed.got ≡ One frame
    → begin + fed.used ≤ end → IsFed kept (slice_range buffer begin end) fed after
    → IsFrame frame × (kept ++ slice_range buffer begin end
    ≡ frame_spelling frame ++ (after ++ slice_range buffer (begin + fed.used) end))
taken_off fed frame kept after buffer begin end got le is =
    let piece = slice_range buffer begin end in
    let leaves : IsFrame frame × (after ≡ []) = subst (λ (g : Got). Leaves g after (drop fed.used piece)) got is.leaves in
    let one : frames_spelling (frames_of fed.got) ≡ frame_spelling frame =
    ap (λ (g : Got). frames_spelling (frames_of g)) got ∙ append-nil (frame_spelling frame) in (
      leaves.0,
      sym is.stream ∙ append_assoc (frames_spelling (frames_of fed.got)) after (drop fed.used piece)
          ∙ ap (λ (t : List ℕ). t ++ (after ++ drop fed.used piece)) one
          ∙ ap (λ (t : List ℕ). frame_spelling frame ++ (after ++ t)) (part_behind buffer begin end fed.used le),
    )

-- where no frame is handed out all bytes stay unread
pub kept_on : (fed : Fed) (kept after buffer : List ℕ) (begin end : ℕ) → frames_of fed.got ≡ [] → begin + fed.used ≤ end
    → IsFed kept (slice_range buffer begin end) fed after
    → after ++ slice_range buffer (begin + fed.used) end ≡ kept ++ slice_range buffer begin end
kept_on fed kept after buffer begin end none le is =
    let behind = drop fed.used (slice_range buffer begin end) in
    ap (λ (t : List ℕ). after ++ t) (sym (part_behind buffer begin end fed.used le))
    ∙ ap (λ (t : List Frame). frames_spelling t ++ after ++ behind) (sym none) ∙ is.stream

empty_range : (buffer : List ℕ) (begin end : ℕ) → end ≤ begin → slice_range buffer begin end ≡ []
empty_range buffer begin end le =
    let none : end - begin ≡ 0 = omega arith in ap (λ (n : ℕ). take n (drop begin buffer)) none

-- so where all were used, whatever is written over them
pub kept_over : (fed : Fed) (kept after buffer other : List ℕ) (begin end : ℕ) → fed.got ≡ More → begin ≤ end → end ≤ length buffer
    → IsFed kept (slice_range buffer begin end) fed after
    → after ++ slice_range other (begin + fed.used) end ≡ kept ++ slice_range buffer begin end
kept_over fed kept after buffer other begin end got le room is =
    let piece = slice_range buffer begin end in
    let leaves : IsUnfinished after × (drop fed.used piece ≡ []) = subst (λ (g : Got). Leaves g after (drop fed.used piece)) got is.leaves in
    let all : length piece ≡ end - begin = simp (length-take, length-drop) (omega arith) in
    let used : end ≤ begin + fed.used = omega (arith, ap length leaves.1, length-drop fed.used piece, all) in
    let within : begin + fed.used ≤ end = omega (arith, is.within, all) in
    ap (λ (t : List ℕ). after ++ t) (empty_range other (begin + fed.used) end used ∙ sym (empty_range buffer (begin + fed.used) end used))
    ∙ kept_on fed kept after buffer begin end (ap frames_of got) within is
