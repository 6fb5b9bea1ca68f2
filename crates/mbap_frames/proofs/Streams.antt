-- Two readings of one stream.
use Rattle.std.proofs.Common.{◌≡◌, ℕ, inl, inr, List, [], ◌∷◌, ◌++◌, refl, sym, ap, ◌∙◌, append_assoc}
use Rattle.std.specs.List.{AllByRecursion}
use Rattle.std.proofs.lemmas.List.{append-nil}
use Rattle.std.proofs.lemmas.List.Concat.{flat_map-append}
use Rattle.mbap_frames.specs.declared.frame.Frame.{Frame}
use Rattle.mbap_frames.specs.Frame.{IsFrame, Begins, frame_spelling}
use Rattle.mbap_frames.specs.declared.frame.FrameFault.{FrameFault}
use Rattle.mbap_frames.specs.Stream.{IsRest, IsStream, HasFault, HasFaultBehind, frames_spelling}
use Rattle.mbap_frames.proofs.Headers.{same_frame, HasFault-append, unfinished_no_frame, fault_no_frame}

-- frames behind frames are frames
pub all_frames : (frames later : List Frame) → AllByRecursion IsFrame frames → AllByRecursion IsFrame later → AllByRecursion IsFrame (frames ++ later)
all_frames [] later each more = more
all_frames (f ∷ frames) later each more = (each.0, all_frames frames later each.1 more)

-- their bytes, with bytes behind them
pub spelling-append : (frames later : List Frame) (rest : List ℕ) → frames_spelling (frames ++ later) ++ rest ≡ frames_spelling frames ++ (frames_spelling later ++ rest)
spelling-append frames later rest =
    ap (λ (t : List ℕ). t ++ rest) (flat_map-append frame_spelling frames later) ∙ append_assoc (frames_spelling frames) (frames_spelling later) rest

-- a rest begins with no frame
pub rest_no_frame : (bytes : List ℕ) (frame : Frame) → IsRest bytes → Begins bytes frame → ⊥
rest_no_frame bytes frame (inl unfinished) begins = unfinished_no_frame bytes frame unfinished begins
rest_no_frame bytes frame (inr fault) begins = fault_no_frame bytes frame fault.0 fault.1 begins

-- Frames at the front of a stream are its first frames.
pub record AreFirst (frames others : List Frame) (behind rest : List ℕ) : Type 0 where
  pub later : List Frame
  pub later_are : AllByRecursion IsFrame later
  pub frames_are : others ≡ frames ++ later
  pub rest_is : behind ≡ frames_spelling later ++ rest

pub first_frames : (frames others : List Frame) (behind rest : List ℕ) → AllByRecursion IsFrame frames → AllByRecursion IsFrame others → IsRest rest
    → frames_spelling frames ++ behind ≡ frames_spelling others ++ rest → AreFirst frames others behind rest
first_frames [] others behind rest each all end e =
    record { later = others; later_are = all; frames_are = refl; rest_is = e }
first_frames (f ∷ frames) [] behind rest each all end e =
    absurd (rest_no_frame rest f end (each.0, frames_spelling frames ++ behind, sym e ∙ append_assoc (frame_spelling f) (frames_spelling frames) behind))
first_frames (f ∷ frames) (g ∷ others) behind rest each all end e =
    let flat = sym (append_assoc (frame_spelling f) (frames_spelling frames) behind) ∙ e ∙ append_assoc (frame_spelling g) (frames_spelling others) rest in
    let one = same_frame f g (frames_spelling frames ++ behind) (frames_spelling others ++ rest) each.0 all.0 flat in
    let more = first_frames frames others behind rest each.1 all.1 end one.1 in
    record { later = more.later; later_are = more.later_are; frames_are = cc (one.0, more.frames_are); rest_is = more.rest_is }

-- behind no frame there is the rest alone
none_later : (frames later : List Frame) (rest end : List ℕ) → AllByRecursion IsFrame later → IsRest rest → rest ≡ frames_spelling later ++ end
    → (frames ≡ frames ++ later) × (rest ≡ end)
none_later frames [] rest end each is e = (sym (append-nil frames), e)
none_later frames (f ∷ later) rest end each is e =
    absurd (rest_no_frame rest f is (each.0, frames_spelling later ++ end, e ∙ append_assoc (frame_spelling f) (frames_spelling later) end))

pub one_reading : (stream : List ℕ) (frames others : List Frame) (rest end : List ℕ) → IsStream stream frames rest → IsStream stream others end
    → (frames ≡ others) × (rest ≡ end)
one_reading stream frames others rest end x y =
    let first = first_frames frames others rest end x.each y.each y.end (sym x.whole ∙ y.whole) in
    let none = none_later frames first.later rest end first.later_are x.end first.rest_is in
    (none.0 ∙ sym first.frames_are, none.1)

-- What stands behind known frames reads as the later ones of the stream, and the other way round.
pub read_behind : (frames others : List Frame) (behind rest : List ℕ) → AllByRecursion IsFrame frames → IsStream (frames_spelling frames ++ behind) others rest
    → (later : List Frame) × (others ≡ frames ++ later) × IsStream behind later rest
read_behind frames others behind rest each stream =
    let first = first_frames frames others behind rest each stream.each stream.end stream.whole in
    (first.later, first.frames_are, record { whole = first.rest_is; each = first.later_are; end = stream.end })

pub read_in_front : (frames later : List Frame) (behind rest : List ℕ) → AllByRecursion IsFrame frames → IsStream behind later rest
    → IsStream (frames_spelling frames ++ behind) (frames ++ later) rest
read_in_front frames later behind rest each stream = record {
  whole = ap (λ (t : List ℕ). frames_spelling frames ++ t) stream.whole ∙ sym (spelling-append frames later rest);
  each = all_frames frames later each stream.each;
  end = stream.end;
}

-- a fault that stands behind known frames
pub fault_behind : (frames : List Frame) (behind : List ℕ) (fault : FrameFault) → AllByRecursion IsFrame frames → HasFault behind fault
    → HasFaultBehind (frames_spelling frames ++ behind) frames fault
fault_behind frames behind fault each stands =
    (behind, record { whole = refl; each = each; end = inr (fault, stands) }, stands)

pub fault_behind-append : (stream more : List ℕ) (frames : List Frame) (fault : FrameFault) → HasFaultBehind stream frames fault → HasFaultBehind (stream ++ more) frames fault
fault_behind-append stream more frames fault has =
    let stands : HasFault (has.0 ++ more) fault = HasFault-append has.0 more fault has.2 in (
      has.0 ++ more,
      record {
        whole = ap (λ (t : List ℕ). t ++ more) has.1.whole ∙ append_assoc (frames_spelling frames) has.0 more;
        each = has.1.each;
        end = inr (fault, stands);
      },
      stands,
    )
