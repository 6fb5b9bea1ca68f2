-- What a piece of a stream comes to, frame by frame.
use Rattle.std.proofs.Common.{◌≡◌, ℕ, ◌-◌, ◌<◌, ◌⊎◌, inl, inr, Bool, IsTrue, List, [], ◌∷◌, ◌++◌, length, take, drop, Option, refl, sym, ap, subst, ◌∙◌, append_assoc, append-nil, arith}
use Rattle.std.specs.Option.{option_map}
use Rattle.std.proofs.lemmas.Bool.{cases_lt}
use Rattle.std.proofs.lemmas.List.{length-append, length-drop, take_all}
use Rattle.world_traits.specs.Causes.{Rose}
use Rattle.world_traits.specs.Links.{Links, IsCutShort, with_bytes}
use Rattle.world_traits.proofs.Links.{no_bytes, bytes_bytes}
use Rattle.modbus_pdu.specs.declared.pdu.Request.{Request}
use Rattle.mbap_frames.specs.declared.frame.Frame.{Frame}
use Rattle.mbap_frames.specs.declared.frame.FrameFault.{FrameFault}
use Rattle.mbap_frames.specs.declared.frames.Got.{Got}
use Rattle.mbap_frames.specs.declared.frames.Got.TheVariants.{More, One}
use Rattle.mbap_frames.specs.declared.frames.Fed.{Fed}
use Rattle.mbap_frames.specs.Frame.{IsFrame, Begins, frame_spelling}
use Rattle.mbap_frames.specs.Stream.{IsUnfinished, HasFault, frames_spelling}
use Rattle.mbap_frames.specs.Feed.{IsFed, Leaves, frames_of}
use Rattle.mbap_frames.proofs.Headers.{same_front, unfinished_no_frame}
use Rattle.inverter_sim.specs.Bank.{BankRecord}
use Rattle.inverter_server.specs.declared.piece.Course.TheVariants as course
use Rattle.inverter_server.specs.Answers.{Answered, IsAnsweredBy, IsHungUpOn, AreAnswers, asked_bytes, answer_bytes, bank_after_all}
use Rattle.inverter_server.specs.Serving.{Refused, Unsent, RoseBy}
use Rattle.inverter_server.specs.Turns.{State, HandlesFrame, HandlesPiece, IsProgress}
use Rattle.inverter_server.proofs.Answering.{all-append, AreAnswers-append, bank_after_all-append, asked_bytes-append, answer_bytes-append}

-- what a call of `feed` leaves, by its answer
abbrev Left : (kept rest after : List ℕ) → ℕ → Got → Type 0
Left kept rest after used got =
    (frames_spelling (frames_of got) ++ after ++ drop used rest ≡ kept ++ rest) × Leaves got after (drop used rest)

left_by : (kept rest after : List ℕ) (fed : Fed) (got : Got) → IsFed kept rest fed after → fed.got ≡ got → Left kept rest after fed.used got
left_by kept rest after fed got call is = subst (Left kept rest after fed.used) is (call.stream, call.leaves)

pub fed_more : (kept rest after : List ℕ) (fed : Fed) → IsFed kept rest fed after → fed.got ≡ More → IsUnfinished after × (kept ++ rest ≡ after)
fed_more kept rest after fed call is =
    let left = left_by kept rest after fed More call is in
    (left.1.0, sym left.0 ∙ ap (λ (t : List ℕ). after ++ t) left.1.1 ∙ append-nil after)

pub record IsFedOne (kept rest after : List ℕ) (used : ℕ) (frame : Frame) : Type 0 where
  pub is_frame : IsFrame frame
  pub none_kept : after ≡ []
  pub whole : kept ++ rest ≡ frame_spelling frame ++ drop used rest

pub fed_one : (kept rest after : List ℕ) (fed : Fed) (frame : Frame) → IsFed kept rest fed after → fed.got ≡ One frame → IsFedOne kept rest after fed.used frame
fed_one kept rest after fed frame call is =
    let left = left_by kept rest after fed (One frame) call is in
    record {
      is_frame = left.1.0;
      none_kept = left.1.1;
      whole = sym left.0 ∙ ap (λ (t : List ℕ). frames_spelling (frame ∷ []) ++ t ++ drop fed.used rest) left.1.1
          ∙ ap (λ (t : List ℕ). t ++ drop fed.used rest) (append-nil (frames_spelling (frame ∷ [])) ∙ append-nil (frame_spelling frame));
    }

-- a whole frame has used bytes of the piece, since what was kept was none
same_bytes : (kept rest bytes unused : List ℕ) → kept ++ rest ≡ bytes ++ unused → length unused ≡ length rest → kept ≡ bytes
same_bytes kept rest bytes unused e same =
    (same_front kept bytes rest unused (omega (arith, ap length e, length-append kept rest, length-append bytes unused)) e).0

pub rest_falls : (kept rest after : List ℕ) (used : ℕ) (frame : Frame) → IsUnfinished kept → IsFedOne kept rest after used frame → length (drop used rest) < length rest
rest_falls kept rest after used frame unfinished fed =
    elim (cases_lt (length (drop used rest)) (length rest)) [
      | inl less ↦ less
      | inr no_less ↦
          let same : length (drop used rest) ≡ length rest = omega (arith, length-drop used rest) in
          let whole = same_bytes kept rest (frame_spelling frame) (drop used rest) fed.whole same in
          absurd (unfinished_no_frame kept frame unfinished (fed.is_frame, [], whole ∙ sym (append-nil (frame_spelling frame))))
    ]

-- nothing was answered yet
pub no_progress : (may_give : ℕ → Bool) (state : State) (stream : List ℕ) → IsProgress may_give state state stream stream []
no_progress may_give state stream = record {
  replies = tt;
  bank = refl;
  number = refl;
  moments = tt;
  frames = tt;
  whole = refl;
  links = sym (no_bytes state.links);
  faults = refl;
}

-- a frame, and what was answered to it
abbrev pub answered_so : (asked : Frame) → Request → (at : ℕ) → (answer : Frame) → Answered
answered_so asked request at answer = record { asked = asked; request = request; at = at; answer = answer }

-- one frame more was answered, and its answer sent
pub one_more : (may_give : ℕ → Bool) (old mid new : State) (stream kept rest after : List ℕ) (used : ℕ) (frame : Frame) (answers : List Answered)
    → IsProgress may_give old mid stream (kept ++ rest) answers → IsFedOne kept rest after used frame
    → new.bank.number ≡ mid.bank.number → (handled : HandlesFrame may_give frame mid new course.GoesOn)
    → IsProgress may_give old new stream (after ++ drop used rest) (answers ++ answered_so frame handled.2.0 handled.0 handled.1 ∷ [])
one_more may_give old mid new stream kept rest after used frame answers so_far fed number handled =
    let by = handled.2 in
    let one : List Answered = answered_so frame by.0 handled.0 handled.1 ∷ [] in record {
      replies = AreAnswers-append old.bank answers one so_far.replies (subst (λ (b : BankRecord). AreAnswers b one) so_far.bank (by.1, tt));
      bank = by.2 ∙ ap (λ (b : BankRecord). bank_after_all b one) so_far.bank ∙ sym (bank_after_all-append old.bank answers one);
      number = number ∙ so_far.number;
      moments = all-append (λ (a : Answered). IsTrue (may_give a.at)) answers one so_far.moments (handled.3, tt);
      frames = all-append (λ (a : Answered). IsFrame a.asked) answers one so_far.frames (fed.is_frame, tt);
      whole = so_far.whole ∙ ap (λ (t : List ℕ). asked_bytes answers ++ t) fed.whole
          ∙ ap (λ (t : List ℕ). asked_bytes answers ++ (t ++ drop used rest)) (sym (append-nil (frame_spelling frame)))
          ∙ sym (append_assoc (asked_bytes answers) (asked_bytes one) (drop used rest))
          ∙ ap (λ (t : List ℕ). t ++ drop used rest) (sym (asked_bytes-append answers one))
          ∙ ap (λ (t : List ℕ). asked_bytes (answers ++ one) ++ (t ++ drop used rest)) (sym fed.none_kept);
      links = handled.4 ∙ ap (λ (l : Option Links). option_map (with_bytes (frame_spelling handled.1)) l) so_far.links
          ∙ bytes_bytes (answer_bytes answers) (frame_spelling handled.1) old.links
          ∙ ap (λ (t : List ℕ). option_map (with_bytes (answer_bytes answers ++ t)) old.links) (sym (append-nil (frame_spelling handled.1)))
          ∙ ap (λ (t : List ℕ). option_map (with_bytes t) old.links) (sym (answer_bytes-append answers one));
      faults = handled.5 ∙ so_far.faults;
    }

more_progress : (may_give : ℕ → Bool) (old mid new : State) (stream kept rest after : List ℕ) (used : ℕ) (frame : Frame) (answers : List Answered)
    → IsProgress may_give old mid stream (kept ++ rest) answers → IsFedOne kept rest after used frame
    → new.bank.number ≡ mid.bank.number → HandlesFrame may_give frame mid new course.GoesOn
    → (all : List Answered) × IsProgress may_give old new stream (after ++ drop used rest) all
more_progress may_give old mid new stream kept rest after used frame answers so_far fed number handled =
    (_, one_more may_give old mid new stream kept rest after used frame answers so_far fed number handled)

none_rose : (before now : ℕ) → now ≡ before → RoseBy 0 before now
none_rose before now same = omega (arith, same)

-- where the link goes on, the piece was used up
pub piece_ends : (may_give : ℕ → Bool) (old mid new : State) (stream kept rest after : List ℕ) (answers : List Answered)
    → IsProgress may_give old mid stream (kept ++ rest) answers → new ≡ mid → IsUnfinished after → kept ++ rest ≡ after
    → HandlesPiece may_give stream after old new course.GoesOn
piece_ends may_give old mid new stream kept rest after answers so_far same unfinished left = (
  answers,
  unfinished,
  record {
    replies = so_far.replies;
    bank = ap (λ (s : State). s.bank) same ∙ so_far.bank;
    number = ap (λ (s : State). s.bank.number) same ∙ so_far.number;
    moments = so_far.moments;
    frames = so_far.frames;
    whole = so_far.whole ∙ ap (λ (t : List ℕ). asked_bytes answers ++ t) left;
    stands = unfinished;
    spelled = refl;
    links = ap (λ (s : State). s.links) same ∙ so_far.links;
    faults = none_rose old.faults new.faults (ap (λ (s : State). s.faults) same ∙ so_far.faults);
  },
)

-- a frame or a fault that is hung up on stands behind what was answered
pub piece_refused : (may_give : ℕ → Bool) (old mid new : State) (stream behind kept : List ℕ) (answers : List Answered)
    → IsProgress may_give old mid stream behind answers → new ≡ mid
    → ((frame : Frame) × Begins behind frame × IsHungUpOn mid.bank.number frame) ⊎ ((fault : FrameFault) × HasFault behind fault)
    → HandlesPiece may_give stream kept old new course.Ends
piece_refused may_give old mid new stream behind kept answers so_far same stands = (
  behind,
  answers,
  Refused,
  answer_bytes answers,
  tt,
  record {
    replies = so_far.replies;
    bank = ap (λ (s : State). s.bank) same ∙ so_far.bank;
    number = ap (λ (s : State). s.bank.number) same ∙ so_far.number;
    moments = so_far.moments;
    frames = so_far.frames;
    whole = so_far.whole;
    stands = subst
        (λ (n : ℕ). ((frame : Frame) × Begins behind frame × IsHungUpOn n frame) ⊎ ((fault : FrameFault) × HasFault behind fault))
        so_far.number stands;
    spelled = refl;
    links = ap (λ (s : State). s.links) same ∙ so_far.links;
    faults = none_rose old.faults new.faults (ap (λ (s : State). s.faults) same ∙ so_far.faults);
  },
)

-- the send of an answer failed
pub piece_unsent : (may_give : ℕ → Bool) (old mid new : State) (stream kept rest after : List ℕ) (used : ℕ) (frame : Frame) (answers : List Answered)
    → IsProgress may_give old mid stream (kept ++ rest) answers → IsFedOne kept rest after used frame → new.bank.number ≡ mid.bank.number
    → (at : ℕ) (answer : Frame) → IsAnsweredBy mid.bank at frame answer new.bank → IsTrue (may_give at)
    → IsCutShort (frame_spelling answer) mid.links new.links → Rose mid.faults new.faults
    → HandlesPiece may_give stream after old new course.Ends
piece_unsent may_give old mid new stream kept rest after used frame answers so_far fed number at answer by given cut rose =
    let answered : Answered = record { asked = frame; request = by.0; at = at; answer = answer } in
    let one : List Answered = answered ∷ [] in
    let part : List ℕ = take cut.0 (frame_spelling answer) in (
      drop used rest,
      answers ++ one,
      Unsent,
      answer_bytes answers ++ part,
      tt,
      record {
        replies = AreAnswers-append old.bank answers one so_far.replies (subst (λ (b : BankRecord). AreAnswers b one) so_far.bank (by.1, tt));
        bank = by.2 ∙ ap (λ (b : BankRecord). bank_after_all b one) so_far.bank ∙ sym (bank_after_all-append old.bank answers one);
        number = number ∙ so_far.number;
        moments = all-append (λ (a : Answered). IsTrue (may_give a.at)) answers one so_far.moments (given, tt);
        frames = all-append (λ (a : Answered). IsFrame a.asked) answers one so_far.frames (fed.is_frame, tt);
        whole = so_far.whole ∙ ap (λ (t : List ℕ). asked_bytes answers ++ t) fed.whole
            ∙ ap (λ (t : List ℕ). asked_bytes answers ++ (t ++ drop used rest)) (sym (append-nil (frame_spelling frame)))
            ∙ sym (append_assoc (asked_bytes answers) (asked_bytes one) (drop used rest))
            ∙ ap (λ (t : List ℕ). t ++ drop used rest) (sym (asked_bytes-append answers one));
        stands = tt;
        spelled = (answers, answered, cut.0, refl, cut.1, refl);
        links = cut.2 ∙ ap (λ (l : Option Links). option_map (with_bytes part) l) so_far.links ∙ bytes_bytes (answer_bytes answers) part old.links;
        faults = omega (arith, rose, so_far.faults);
      },
    )

-- the bytes behind those that were used, as the code cuts them off
pub behind_used : (used : ℕ) (rest : List ℕ) → take (length rest - used) (drop used rest) ≡ drop used rest
behind_used used rest = take_all (length rest - used) (drop used rest) (omega (arith, length-drop used rest))

-- the turn of the loop at a whole frame, where the link goes on, and where it has come to its end
pub loop_goes_on : (may_give given : ℕ → Bool) (old mid new : State) (stream kept rest after : List ℕ) (fed : Fed) (frame : Frame) (answers : List Answered)
    → given ≡ may_give → IsProgress may_give old mid stream (kept ++ rest) answers → IsFed kept rest fed after → fed.got ≡ One frame
    → new.bank.number ≡ mid.bank.number → HandlesFrame given frame mid new course.GoesOn
    → (all : List Answered) × IsProgress may_give old new stream (after ++ take (length rest - fed.used) (drop fed.used rest)) all
loop_goes_on may_give given old mid new stream kept rest after fed frame answers same so_far call is number handled =
    let one = fed_one kept rest after fed frame call is in
    let here = subst (λ (m : ℕ → Bool). HandlesFrame m frame mid new course.GoesOn) same handled in
    let more = more_progress may_give old mid new stream kept rest after fed.used frame answers so_far one number here in
    (more.0, subst (λ (t : List ℕ). IsProgress may_give old new stream (after ++ t) more.0) (sym (behind_used fed.used rest)) more.1)

pub loop_ends : (may_give given : ℕ → Bool) (old mid new : State) (stream kept rest after : List ℕ) (fed : Fed) (frame : Frame) (answers : List Answered)
    → given ≡ may_give → IsProgress may_give old mid stream (kept ++ rest) answers → IsFed kept rest fed after → fed.got ≡ One frame
    → new.bank.number ≡ mid.bank.number → HandlesFrame given frame mid new course.Ends
    → HandlesPiece may_give stream after old new course.Ends
loop_ends may_give given old mid new stream kept rest after fed frame answers same so_far call is number (inl refused) =
    let one = fed_one kept rest after fed frame call is in
    piece_refused may_give old mid new stream (kept ++ rest) after answers so_far refused.1 (inl (frame, (one.is_frame, drop fed.used rest, one.whole), refused.0))
loop_ends may_give given old mid new stream kept rest after fed frame answers same so_far call is number (inr unsent) =
    let one = fed_one kept rest after fed frame call is in
    let given_here = subst (λ (m : ℕ → Bool). IsTrue (m unsent.0)) same unsent.3 in
    piece_unsent may_give old mid new stream kept rest after fed.used frame answers so_far one number unsent.0 unsent.1 unsent.2 given_here unsent.4 unsent.5

pub loop_falls : (kept rest after : List ℕ) (fed : Fed) (frame : Frame) → IsUnfinished kept → IsFed kept rest fed after → fed.got ≡ One frame
    → length (take (length rest - fed.used) (drop fed.used rest)) < length rest
loop_falls kept rest after fed frame unfinished call is =
    subst (λ (t : List ℕ). length t < length rest) (sym (behind_used fed.used rest)) (rest_falls kept rest after fed.used frame unfinished (fed_one kept rest after fed frame call is))
