-- What an inverter hears, as a server's progress on a stream whose answers gather in one place.
use Rattle.std.proofs.Common.{◌≡◌, ℕ, ◌-◌, Bool, IsTrue, List, [], ◌∷◌, ◌++◌, length, take, drop, Option, Some, None, refl, sym, ap, subst}
use Rattle.world_traits.specs.Links.{Link, Links}
use Rattle.mbap_frames.specs.declared.frame.Frame.{Frame}
use Rattle.mbap_frames.specs.declared.frames.Got.TheVariants.{One}
use Rattle.mbap_frames.specs.declared.frames.Fed.{Fed}
use Rattle.mbap_frames.specs.Frame.{frame_spelling}
use Rattle.mbap_frames.specs.Stream.{IsUnfinished}
use Rattle.mbap_frames.specs.Feed.{IsFed}
use Rattle.inverter_sim.specs.Bank.{BankRecord}
use Rattle.inverter_server.specs.Answers.{Answered, IsAnsweredBy, answer_bytes}
use Rattle.inverter_server.specs.Turns.{State, IsProgress}
use Rattle.inverter_server.proofs.Pieces.{answered_so, behind_used, fed_one, one_more}
use Rattle.device_dialers.specs.Device.{AreAtReadings, AreHeard, HangsUp, Hears, IsRead}
use Rattle.device_dialers.specs.declared.hearing.Standing.TheVariants.{Listens, HungUp}

-- a bank, and the answers that gathered so far
gathered_link : List ℕ → Link
gathered_link left = record { host = []; port = 0; sent = left; receipts = [] }

pub gathered : BankRecord → List ℕ → State
gathered bank left = record { bank = bank; links = Some (record { past = []; current = Some (gathered_link left) }); faults = 0 }

-- what has gathered
abbrev sent_on : Option Link → List ℕ
sent_on None = []
sent_on (Some link) = link.sent

abbrev sent_of : Option Links → List ℕ
sent_of None = []
sent_of (Some record_) = sent_on record_.current

left_grows : (may_give : ℕ → Bool) (old new : BankRecord) (left after stream behind : List ℕ) (answers : List Answered)
    → IsProgress may_give (gathered old left) (gathered new after) stream behind answers → after ≡ left ++ answer_bytes answers
unfolding gathered gathered_link
left_grows may_give old new left after stream behind answers so_far = ap sent_of so_far.links

heard : (may_give : ℕ → Bool) (old new : BankRecord) (left after stream behind : List ℕ) (answers : List Answered)
    → IsProgress may_give (gathered old left) (gathered new after) stream behind answers → AreHeard may_give old new stream behind answers
unfolding gathered
heard may_give old new left after stream behind answers so_far = record {
  replies = so_far.replies;
  bank = so_far.bank;
  moments = so_far.moments;
  frames = so_far.frames;
  whole = so_far.whole;
}

-- the same clock gives the same readings
pub read_alike : (given may_give : ℕ → Bool) (before greatest : ℕ) → given ≡ may_give → IsRead given before greatest → IsRead may_give before greatest
read_alike given may_give before greatest same reads = subst (λ (m : ℕ → Bool). IsRead m before greatest) same reads

-- one reading more, for one answer more
more_readings : (may_give : ℕ → Bool) (before mid greatest : ℕ) (answers : List Answered) (answered : Answered)
    → AreAtReadings may_give before answers mid → IsRead may_give mid greatest → answered.at ≡ greatest
    → AreAtReadings may_give before (answers ++ answered ∷ []) greatest
more_readings may_give before mid greatest [] answered so_far reads at =
    (subst (IsRead may_give before) (sym at) (subst (λ (m : ℕ). IsRead may_give m greatest) so_far reads), sym at)
more_readings may_give before mid greatest (first ∷ answers) answered so_far reads at =
    (so_far.0, more_readings may_give first.at mid greatest answers answered so_far.1 reads at)

-- one frame more was answered
pub hears_more : (may_give given : ℕ → Bool) (old mid new : BankRecord) (before seen greatest : ℕ) (left now after stream kept rest kept_after : List ℕ) (fed : Fed) (frame answer : Frame) (answers : List Answered)
    → given ≡ may_give → IsProgress may_give (gathered old left) (gathered mid now) stream (kept ++ rest) answers → AreAtReadings may_give before answers seen → IsFed kept rest fed kept_after → fed.got ≡ One frame
    → new.number ≡ mid.number → IsAnsweredBy mid greatest frame answer new → IsTrue (given greatest) → IsRead given seen greatest → after ≡ now ++ frame_spelling answer
    → (all : List Answered) × IsProgress may_give (gathered old left) (gathered new after) stream (kept_after ++ take (length rest - fed.used) (drop fed.used rest)) all × AreAtReadings may_give before all greatest
unfolding gathered gathered_link
hears_more may_give given old mid new before seen greatest left now after stream kept rest kept_after fed frame answer answers same so_far readings call is number by passes reads grows =
    let one = fed_one kept rest kept_after fed frame call is in
    let here = subst (λ (m : ℕ → Bool). IsTrue (m greatest)) same passes in
    let all : List Answered = answers ++ answered_so frame by.0 greatest answer ∷ [] in (
      all,
      subst (λ (t : List ℕ). IsProgress may_give (gathered old left) (gathered new after) stream (kept_after ++ t) all) (sym (behind_used fed.used rest))
          (one_more may_give (gathered old left) (gathered mid now) (gathered new after) stream kept rest kept_after fed.used frame answers so_far one number
          (greatest, answer, by, here, ap (λ (t : List ℕ). Some (record { past = []; current = Some (gathered_link t) })) grows, refl)),
      more_readings may_give before seen greatest answers (answered_so frame by.0 greatest answer) readings (read_alike given may_give seen greatest same reads) refl,
    )

-- the piece was used up
pub hears_all : (may_give : ℕ → Bool) (old new : BankRecord) (before greatest : ℕ) (left after stream behind kept : List ℕ) (answers : List Answered)
    → IsProgress may_give (gathered old left) (gathered new after) stream behind answers → AreAtReadings may_give before answers greatest → IsUnfinished kept → behind ≡ kept
    → Hears may_give old new before greatest stream kept left after Listens
hears_all may_give old new before greatest left after stream behind kept answers so_far readings unfinished is = (
  answers,
  subst (λ (t : List ℕ). AreHeard may_give old new stream t answers) is (heard may_give old new left after stream behind answers so_far),
  readings,
  unfinished,
  left_grows may_give old new left after stream behind answers so_far,
)

-- a frame or a fault stands there that is hung up on
pub hears_end : (may_give : ℕ → Bool) (old mid new : BankRecord) (before seen greatest : ℕ) (left after stream behind kept : List ℕ) (answers : List Answered)
    → IsProgress may_give (gathered old left) (gathered mid after) stream behind answers → AreAtReadings may_give before answers seen → new ≡ mid → kept ≡ []
    → HangsUp may_give mid.number behind seen greatest
    → Hears may_give old new before greatest stream kept left after HungUp
unfolding gathered
hears_end may_give old mid new before seen greatest left after stream behind kept answers so_far readings same none stands = (
  answers,
  behind,
  subst (λ (b : BankRecord). AreHeard may_give old b stream behind answers) (sym same) (heard may_give old mid left after stream behind answers so_far),
  (seen, readings, subst (λ (n : ℕ). HangsUp may_give n behind seen greatest) so_far.number stands),
  none,
  left_grows may_give old mid left after stream behind answers so_far,
)
