-- What one call makes of a stream.
use Rattle.std.proofs.Common.{◌≡◌, ℕ, ◌≤◌, List, [], ◌∷◌, ◌++◌, length, take, drop, refl, sym, ap, subst, ◌∙◌, ◌↔◌, append_assoc, arith}
use Rattle.std.proofs.lemmas.List.{append-nil, take-append-drop, drop_all, length-drop}
use Rattle.mbap_frames.specs.declared.frame.Frame.{Frame}
use Rattle.mbap_frames.specs.declared.frame.FrameFault.{FrameFault}
use Rattle.mbap_frames.specs.declared.frames.Got.{Got}
use Rattle.mbap_frames.specs.declared.frames.Got.TheVariants.{More, One, Bad}
use Rattle.mbap_frames.specs.declared.frames.Fed.{Fed}
use Rattle.mbap_frames.specs.Frame.{IsFrame, Begins, frame_spelling}
use Rattle.mbap_frames.specs.Stream.{IsUnfinished, HasFault, fault_end, frames_spelling}
use Rattle.mbap_frames.specs.Feed.{IsFed, Leaves, frames_of}
use Rattle.mbap_frames.specs.Gathering.{IsKept}
use Rattle.mbap_frames.proofs.Gathered.{fault_at, gathered_of_kept}
use Rattle.mbap_frames.proofs.Headers.{same_front, HasFault-append, unfinished_no_fault, unfinished_no_frame, fault_no_frame, one_fault, same_frame}

-- bytes taken from the front of a piece, and those behind them
taken : (before piece after : List ℕ) (used : ℕ) → after ≡ before ++ take used piece → after ++ drop used piece ≡ before ++ piece
taken before piece after used is =
    ap (λ (t : List ℕ). t ++ drop used piece) is ∙ append_assoc before (take used piece) (drop used piece) ∙ ap (λ (t : List ℕ). before ++ t) (take-append-drop used piece)

pub fed_more : (before piece after : List ℕ) (used : ℕ) → used ≤ length piece → after ≡ before ++ take used piece → (IsUnfinished after → used ≡ length piece) → IsUnfinished after
    → IsFed before piece (record { used = used; got = More }) after
fed_more before piece after used within is all unfinished =
    record { within = within; stream = taken before piece after used is; leaves = (unfinished, drop_all used piece (omega (arith, all unfinished))) }

pub fed_one : (before piece after : List ℕ) (used : ℕ) (frame : Frame) → used ≤ length piece → after ≡ before ++ take used piece → IsFrame frame → after ≡ frame_spelling frame
    → IsFed before piece (record { used = used; got = One frame }) []
fed_one before piece after used frame within is is_frame spelled =
    let alone : (frame_spelling frame ++ []) ++ [] ≡ after = append-nil (frame_spelling frame ++ []) ∙ append-nil (frame_spelling frame) ∙ sym spelled in
    record { within = within; stream = ap (λ (t : List ℕ). t ++ drop used piece) alone ∙ taken before piece after used is; leaves = (is_frame, refl) }

-- what stands first in bytes
abbrev pub StandsFirst : List ℕ → Got → Type 0
StandsFirst bytes More = IsUnfinished bytes
StandsFirst bytes (One frame) = Begins bytes frame
StandsFirst bytes (Bad fault) = HasFault bytes fault

pub one_first : (bytes : List ℕ) (a b : Got) → StandsFirst bytes a → StandsFirst bytes b → a ≡ b
one_first bytes More More x y = refl
one_first bytes More (One g) x y = absurd (unfinished_no_frame bytes g x y)
one_first bytes More (Bad g) x y = absurd (unfinished_no_fault bytes g x y)
one_first bytes (One f) More x y = absurd (unfinished_no_frame bytes f y x)
one_first bytes (One f) (One g) x y = ap One (same_frame f g x.1 y.1 x.0 y.0 (sym x.2 ∙ y.2)).0
one_first bytes (One f) (Bad g) x y = absurd (fault_no_frame bytes f g y x)
one_first bytes (Bad f) More x y = absurd (unfinished_no_fault bytes f y x)
one_first bytes (Bad f) (One g) x y = absurd (fault_no_frame bytes g f x y)
one_first bytes (Bad f) (Bad g) x y = ap Bad (one_fault bytes f g x y)

-- a call answers what stands first in what was kept and the piece
stands_first : (before piece : List ℕ) (used : ℕ) (got : Got) (after : List ℕ) → frames_spelling (frames_of got) ++ after ++ drop used piece ≡ before ++ piece → Leaves got after (drop used piece)
    → StandsFirst (before ++ piece) got
stands_first before piece used More after stream leaves =
    let all : after ≡ before ++ piece = sym (append-nil after) ∙ ap (λ (t : List ℕ). after ++ t) (sym leaves.1) ∙ stream in
    rw (← all) leaves.0
stands_first before piece used (One frame) after stream leaves =
    let spelled : frames_spelling (frame ∷ []) ++ after ≡ frame_spelling frame = ap (λ (t : List ℕ). frames_spelling (frame ∷ []) ++ t) leaves.1 ∙ append-nil _ ∙ append-nil (frame_spelling frame) in
    (leaves.0, drop used piece, sym stream ∙ ap (λ (t : List ℕ). t ++ drop used piece) spelled)
stands_first before piece used (Bad fault) after stream leaves = rw (← stream) (HasFault-append after (drop used piece) fault leaves.0)

pub first_of_call : (before piece : List ℕ) (fed : Fed) (after : List ℕ) → IsFed before piece fed after → StandsFirst (before ++ piece) fed.got
first_of_call before piece fed after call = stands_first before piece fed.used fed.got after call.stream call.leaves

-- an answer is given exactly where it stands first
pub exactly : (bytes : List ℕ) (got want : Got) → StandsFirst bytes got → (got ≡ want) ↔ StandsFirst bytes want
exactly bytes got want stands = (λ is. subst (λ (g : Got). StandsFirst bytes g) is stands, λ wanted. one_first bytes got want stands wanted)

-- a fault that stands is answered again, and nothing changes
fault_left : (fault : FrameFault) (got : Got) (after unused : List ℕ) → got ≡ Bad fault → frames_spelling (frames_of got) ++ after ++ unused ≡ after ++ unused
fault_left fault got after unused is = rw is refl

fault_len : (fault : FrameFault) (got : Got) (after unused : List ℕ) → got ≡ Bad fault → Leaves got after unused → length after ≡ fault_end fault
fault_len fault got after unused is leaves =
    let at = subst (λ (g : Got). Leaves g after unused) is leaves in
    at.1

pub record StaysBad (before : List ℕ) (fault : FrameFault) (fed : Fed) (after : List ℕ) : Type 0 where
  pub used : fed.used ≡ 0
  pub got : fed.got ≡ Bad fault
  pub kept : after ≡ before

-- also where no more is known of what was kept than that it shows the fault and no more
pub stays_bad_at : (before piece : List ℕ) (fault : FrameFault) (fed : Fed) (after : List ℕ) → length before ≡ fault_end fault → IsFed before piece fed after → HasFault before fault
    → StaysBad before fault fed after
stays_bad_at before piece fault fed after then call stands =
    let got : fed.got ≡ Bad fault = one_first (before ++ piece) fed.got (Bad fault) (first_of_call before piece fed after call) (HasFault-append before piece fault stands) in
    let stream : after ++ drop fed.used piece ≡ before ++ piece = sym (fault_left fault fed.got after (drop fed.used piece) got) ∙ call.stream in
    let now : length after ≡ fault_end fault = fault_len fault fed.got after (drop fed.used piece) got call.leaves in
    let parts = same_front after before (drop fed.used piece) piece (now ∙ sym then) stream in
    let left : length (drop fed.used piece) ≡ length piece = ap length parts.1 in
    let within = call.within in
    record { used = omega (arith, length-drop fed.used piece); got = got; kept = parts.0 }

pub stays_bad : (before piece : List ℕ) (fault : FrameFault) (fed : Fed) (after : List ℕ) → IsKept before → IsFed before piece fed after → HasFault before fault → StaysBad before fault fed after
stays_bad before piece fault fed after kept call stands =
    stays_bad_at before piece fault fed after (fault_at before fault (gathered_of_kept before kept) stands) call stands
