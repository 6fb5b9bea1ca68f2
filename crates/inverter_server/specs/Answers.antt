-- What a served inverter answers to a frame, and which frames it hangs up on (Modbus Messaging on TCP/IP
-- Implementation Guide V1.0b, section 3.1.3: a reply has the transaction number and the unit number of its
-- request).
use Rattle.std.specs.Prelude.{◌≡◌, ◌≢◌, ℕ, ◌⊎◌, ◌≤◌, List, [], ◌∷◌, map}
use Rattle.modbus_pdu.specs.declared.pdu.Request.{Request}
use Rattle.modbus_pdu.specs.Grammar.{IsRequest, IsReply}
use Rattle.mbap_frames.specs.declared.frame.Frame.{Frame}
use Rattle.mbap_frames.specs.Stream.{frames_spelling}
use Rattle.inverter_sim.specs.Bank.{BankRecord}
use Rattle.inverter_sim.specs.Replies.{reply_of, state_after}

-- a frame that is hung up on: it is for another unit, or its PDU is no request
abbrev pub IsHungUpOn : (number : ℕ) → Frame → Type 0
IsHungUpOn number frame = (frame.unit ≢ number) ⊎ ((request : Request) → IsRequest frame.pdu request → ⊥)

-- a frame that came, the request that it has, the moment at which the bank was asked, and the frame that answers
pub record Answered : Type 0 where
  pub asked : Frame
  pub request : Request
  pub at : ℕ
  pub answer : Frame

-- The answer is the reply of the bank to the request, not before the last moment of the bank, with the numbers of
-- the frame that came.
pub record IsAnswer (bank : BankRecord) (answered : Answered) : Type 0 where
  pub number : answered.asked.unit ≡ bank.number
  pub request : IsRequest answered.asked.pdu answered.request
  pub in_order : bank.last ≤ answered.at
  pub reply : IsReply answered.answer.pdu (reply_of bank answered.at answered.request)
  pub transaction : answered.answer.transaction ≡ answered.asked.transaction
  pub unit : answered.answer.unit ≡ answered.asked.unit

-- The bank answered a frame at a moment by this frame, and stands so then.
abbrev pub IsAnsweredBy : (old : BankRecord) (at : ℕ) (asked answer : Frame) (new : BankRecord) → Type 0
IsAnsweredBy old at asked answer new =
    (request : Request) × IsAnswer old (record { asked = asked; request = request; at = at; answer = answer })
    × (new ≡ state_after old at request)

-- the bank after an answer, and after several
abbrev pub bank_after : BankRecord → Answered → BankRecord
bank_after bank answered = state_after bank answered.at answered.request

abbrev pub bank_after_all : BankRecord → List Answered → BankRecord
bank_after_all bank [] = bank
bank_after_all bank (answered ∷ later) = bank_after_all (bank_after bank answered) later

-- each is the answer of the bank as those before it left it
abbrev pub AreAnswers : BankRecord → List Answered → Type 0
AreAnswers bank [] = Unit {0}
AreAnswers bank (answered ∷ later) = IsAnswer bank answered × AreAnswers (bank_after bank answered) later

-- the bytes of the frames that came, and those of the answers
abbrev pub asked_bytes : List Answered → List ℕ
asked_bytes answers = frames_spelling (map (λ answered. answered.asked) answers)

abbrev pub answer_bytes : List Answered → List ℕ
answer_bytes answers = frames_spelling (map (λ answered. answered.answer) answers)
