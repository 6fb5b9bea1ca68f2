-- When any list of calls answers a fault.
use Rattle.std.proofs.Common.{◌≡◌, ℕ, zero, suc, ◌<◌, ◌⊎◌, inl, inr, List, [], ◌∷◌, ◌++◌, length, refl, sym, ap, subst, ◌∙◌, ◌↔◌, append_assoc, arith}
use Rattle.std.specs.Prelude.{Any, slice_index_or}
use Rattle.std.specs.List.{AllByRecursion}
use Rattle.std.proofs.lemmas.List.{append_cancel_left}
use Rattle.mbap_frames.specs.declared.frame.FrameFault.{FrameFault}
use Rattle.mbap_frames.specs.declared.frame.FrameFault.TheVariants.{BadProtocol, BadLength}
use Rattle.mbap_frames.specs.declared.frames.Got.{Got}
use Rattle.mbap_frames.specs.declared.frames.Got.TheVariants.{More, One, Bad}
use Rattle.mbap_frames.specs.declared.frames.Fed.{Fed}
use Rattle.mbap_frames.specs.Stream.{IsUnfinished, HasFault, fault_end, IsRest, IsStream, HasFaultBehind, frames_spelling}
use Rattle.mbap_frames.specs.Feed.{IsFed, Leaves, Feeding, AnswersFault, AreFeedings, stream_of, frames_among}
use Rattle.mbap_frames.proofs.Headers.{unfinished_no_fault, one_fault}
use Rattle.mbap_frames.proofs.Streams.{one_reading}
use Rattle.mbap_frames.proofs.OneFeeding.{first_of_call, exactly, stays_bad_at}
use Rattle.mbap_frames.proofs.Feedings.{calls_are_stream}

-- after a fault each call answers it, uses nothing and keeps what was kept
pub record StayBad (before : List ℕ) (fault : FrameFault) (feedings : List Feeding) (after : List ℕ) : Type 0 where
  pub each : AllByRecursion (λ feeding. (feeding.fed.used ≡ 0) × AnswersFault fault feeding) feedings
  pub kept : after ≡ before

pub stay_bad : (before : List ℕ) (fault : FrameFault) (feedings : List Feeding) (after : List ℕ) → HasFault before fault → length before ≡ fault_end fault → AreFeedings before feedings after
    → StayBad before fault feedings after
stay_bad before fault [] after stands len are = record { each = tt; kept = sym are }
stay_bad before fault (feeding ∷ feedings) after stands len are =
    let one = stays_bad_at before feeding.piece fault feeding.fed are.0 len are.1 stands in
    let on : AreFeedings before feedings after = subst (λ (b : List ℕ). AreFeedings b feedings after) one.kept are.2 in
    let more = stay_bad before fault feedings after stands len on in
    record { each = ((one.used, one.got), more.each); kept = more.kept }

-- what is kept after a call that answered this fault: its bytes, and no more
pub record KeepsFault (bytes : List ℕ) (fault : FrameFault) : Type 0 where
  pub stands : HasFault bytes fault
  pub len : length bytes ≡ fault_end fault

left_by : (got : Got) (after unused : List ℕ) (fault : FrameFault) → got ≡ Bad fault → Leaves got after unused → KeepsFault after fault
left_by got after unused fault is leaves =
    let bad : Leaves (Bad fault) after unused = subst (λ (g : Got). Leaves g after unused) is leaves in
    record { stands = bad.0; len = bad.1 }

keeps_on : (before : List ℕ) (fault : FrameFault) (feedings : List Feeding) (after : List ℕ) → KeepsFault before fault → AreFeedings before feedings after → KeepsFault after fault
keeps_on before fault feedings after keeps are =
    subst (λ (b : List ℕ). KeepsFault b fault) (sym (stay_bad before fault feedings after keeps.stands keeps.len are).kept) keeps

answered_at : (before : List ℕ) (feedings : List Feeding) (after : List ℕ) (fault : FrameFault) (k : ℕ) (x : Feeding) → k < length feedings → slice_index_or feedings k x ≡ x → AnswersFault fault x
    → AreFeedings before feedings after → KeepsFault after fault
answered_at before [] after fault k x below is answers are = absurd (omega arith)
answered_at before (feeding ∷ feedings) after fault zero x below is answers are =
    let bad : feeding.fed.got ≡ Bad fault = ap (λ (f : Feeding). f.fed.got) is ∙ answers in
    keeps_on are.0 fault feedings after (left_by feeding.fed.got are.0 _ fault bad are.1.leaves) are.2
answered_at before (feeding ∷ feedings) after fault (suc k) x below is answers are =
    answered_at are.0 feedings after fault k x (omega arith) is answers are.2

pub keeps_answered : (before : List ℕ) (feedings : List Feeding) (after : List ℕ) (fault : FrameFault) → AreFeedings before feedings after → Any (AnswersFault fault) feedings → KeepsFault after fault
keeps_answered before feedings after fault are (k, x, below, is, answers) = answered_at before feedings after fault k x below is answers are

-- a fault that is kept was answered, unless it was kept before
no_fault_in_nothing : (fault : FrameFault) → HasFault [] fault → ⊥
no_fault_in_nothing (BadProtocol n) fault = omega (arith, fault.0)
no_fault_in_nothing (BadLength n) fault = omega (arith, fault.0)

answer_that_leaves : (got : Got) (after unused : List ℕ) (fault : FrameFault) → Leaves got after unused → HasFault after fault → got ≡ Bad fault
answer_that_leaves More after unused fault leaves stands = absurd (unfinished_no_fault after fault leaves.0 stands)
answer_that_leaves (One frame) after unused fault leaves stands =
    absurd (no_fault_in_nothing fault (subst (λ (b : List ℕ). HasFault b fault) leaves.1 stands))
answer_that_leaves (Bad other) after unused fault leaves stands = ap Bad (one_fault after other fault leaves.0 stands)

later_answer : (fault : FrameFault) (feeding : Feeding) (feedings : List Feeding) → Any (AnswersFault fault) feedings → Any (AnswersFault fault) (feeding ∷ feedings)
later_answer fault feeding feedings (k, x, below, is, answers) = (suc k, x, omega arith, is, answers)

answered_or_kept : (before : List ℕ) (feedings : List Feeding) (after : List ℕ) (fault : FrameFault) → AreFeedings before feedings after → HasFault after fault
    → Any (AnswersFault fault) feedings ⊎ HasFault before fault
answered_or_kept before [] after fault are stands = inr (subst (λ (b : List ℕ). HasFault b fault) (sym are) stands)
answered_or_kept before (feeding ∷ feedings) after fault are stands =
    elim (answered_or_kept are.0 feedings after fault are.2 stands) [
      | inl later ↦ inl (later_answer fault feeding feedings later)
      | inr now ↦ inl (zero, feeding, omega arith, refl, answer_that_leaves feeding.fed.got are.0 _ fault are.1.leaves now)
    ]

pub answered : (feedings : List Feeding) (kept : List ℕ) (fault : FrameFault) → AreFeedings [] feedings kept → HasFault kept fault → Any (AnswersFault fault) feedings
answered feedings kept fault are stands =
    elim (answered_or_kept [] feedings kept fault are stands) [
      | inl some ↦ some
      | inr none ↦ absurd (no_fault_in_nothing fault none)
    ]

-- A new reader's calls have answered a fault exactly where the stream that they used has it behind their frames.
pub found : (feedings : List Feeding) (kept : List ℕ) (fault : FrameFault) → AreFeedings [] feedings kept
    → Any (AnswersFault fault) feedings ↔ HasFaultBehind (stream_of feedings) (frames_among feedings) fault
found feedings kept fault are =
    let stream = calls_are_stream feedings kept are in (
      λ answers. (kept, stream, (keeps_answered [] feedings kept fault are answers).stands),
      λ has.
          let same = one_reading (stream_of feedings) (frames_among feedings) (frames_among feedings) has.0 kept has.1 stream in
          answered feedings kept fault are (subst (λ (b : List ℕ). HasFault b fault) same.1 has.2),
    )

pub for_good : (feedings later : List Feeding) (kept end : List ℕ) (fault : FrameFault) → AreFeedings [] feedings kept → Any (AnswersFault fault) feedings → AreFeedings kept later end
    → AllByRecursion (λ feeding. (feeding.fed.used ≡ 0) × AnswersFault fault feeding) later × (end ≡ kept)
for_good feedings later kept end fault are answers on =
    let keeps = keeps_answered [] feedings kept fault are answers in
    let stay = stay_bad kept fault later end keeps.stands keeps.len on in
    (stay.each, stay.kept)

-- The next call: what stands behind the frames so far, in the stream to the end of its piece.
with_piece : (feedings : List Feeding) (kept piece : List ℕ) → AreFeedings [] feedings kept → IsRest (kept ++ piece)
    → IsStream (stream_of feedings ++ piece) (frames_among feedings) (kept ++ piece)
with_piece feedings kept piece are end =
    let stream = calls_are_stream feedings kept are in
    record {
      whole = ap (λ (t : List ℕ). t ++ piece) stream.whole ∙ append_assoc (frames_spelling (frames_among feedings)) kept piece;
      each = stream.each;
      end = end;
    }

rest_with_piece : (feedings : List Feeding) (kept piece rest : List ℕ) → AreFeedings [] feedings kept → IsStream (stream_of feedings ++ piece) (frames_among feedings) rest → rest ≡ kept ++ piece
rest_with_piece feedings kept piece rest are is =
    let stream = calls_are_stream feedings kept are in
    append_cancel_left (frames_spelling (frames_among feedings)) rest (kept ++ piece)
    (sym is.whole ∙ ap (λ (t : List ℕ). t ++ piece) stream.whole ∙ append_assoc (frames_spelling (frames_among feedings)) kept piece)

pub next_bad : (feedings : List Feeding) (kept piece after : List ℕ) (fed : Fed) (fault : FrameFault) → AreFeedings [] feedings kept → IsFed kept piece fed after
    → (fed.got ≡ Bad fault) ↔ HasFaultBehind (stream_of feedings ++ piece) (frames_among feedings) fault
next_bad feedings kept piece after fed fault are call =
    let answer = exactly (kept ++ piece) fed.got (Bad fault) (first_of_call kept piece fed after call) in (
      λ is.
          let stands : HasFault (kept ++ piece) fault = answer.0 is in
          (kept ++ piece, with_piece feedings kept piece are (inr (fault, stands)), stands),
      λ has. answer.1 (subst (λ (b : List ℕ). HasFault b fault) (rest_with_piece feedings kept piece has.0 are has.1) has.2),
    )

pub next_more : (feedings : List Feeding) (kept piece after : List ℕ) (fed : Fed) → AreFeedings [] feedings kept → IsFed kept piece fed after
    → (fed.got ≡ More) ↔ ((rest : List ℕ) × IsStream (stream_of feedings ++ piece) (frames_among feedings) rest × IsUnfinished rest)
next_more feedings kept piece after fed are call =
    let answer = exactly (kept ++ piece) fed.got More (first_of_call kept piece fed after call) in (
      λ is.
          let unfinished : IsUnfinished (kept ++ piece) = answer.0 is in
          (kept ++ piece, with_piece feedings kept piece are (inl unfinished), unfinished),
      λ has. answer.1 (subst (λ (b : List ℕ). IsUnfinished b) (rest_with_piece feedings kept piece has.0 are has.1) has.2),
    )
