-- What was done to serve an inverter: the dials, and on each link the frames that were answered. It reads the
-- record of the links.
use Rattle.std.specs.Prelude.{◌≡◌, ℕ, ◌+◌, ◌-◌, ◌^◌, ◌<◌, ◌≤◌, ◌⊎◌, Bool, IsTrue, List, [], ◌∷◌, ◌++◌, length, map, min, sum_by, take, Option, Some, None}
use Rattle.std.specs.List.{AllByRecursion, flat_map}
use Rattle.std.specs.Option.{option_map}
use Rattle.world_traits.specs.Links as links
use Rattle.world_traits.specs.Links.{Link, Links, Receipt, all_links, received_bytes}
use Rattle.mbap_frames.specs.declared.frame.Frame.{Frame}
use Rattle.mbap_frames.specs.declared.frame.FrameFault.{FrameFault}
use Rattle.mbap_frames.specs.Frame.{IsFrame, Begins, frame_spelling}
use Rattle.mbap_frames.specs.Stream.{IsUnfinished, HasFault}
use Rattle.plant_book.specs.Port.{PortRecord}
use Rattle.inverter_sim.specs.Bank.{BankRecord}
use Rattle.inverter_server.specs.Answers.{Answered, IsHungUpOn, AreAnswers, asked_bytes, answer_bytes}

-- How a link came to its end: it hasn't, and is up; the peer closed it; a receive failed; a frame or a fault came
-- that is hung up on; or the send of an answer failed.
pub data Ending : Type 0 where
  Open : Ending
  Closed : Ending
  Lost : Ending
  Refused : Ending
  Unsent : Ending

-- a link, what was answered on it, in order, and how it came to its end
pub record Visit : Type 0 where
  pub link : Link
  pub answers : List Answered
  pub ending : Ending

-- a dial that failed, and one that made a link
pub data Dial : Type 0 where
  Missed : Dial
  Made : Visit → Dial

-- the link goes on behind a receive that came to this
abbrev pub GoesOn : links.Answer → Type 0
GoesOn (links.Bytes bytes) = Unit {0}
GoesOn links.Quiet = Unit {0}
GoesOn links.Closed = ⊥
GoesOn links.Failed = ⊥

abbrev pub AllGoOn : List Receipt → Type 0
AllGoOn receipts = AllByRecursion (λ receipt. GoesOn receipt.answer) receipts

-- the last receive came to this, and the link went on behind each before it
abbrev pub EndsWith : links.Answer → List Receipt → Type 0
EndsWith answer receipts =
    (before : List Receipt) × (last : Receipt) × (receipts ≡ before ++ last ∷ [])
    × (last.answer ≡ answer) × AllGoOn before

-- what the receives of a link came to
abbrev pub HasReceipts : Ending → List Receipt → Type 0
HasReceipts Closed receipts = EndsWith links.Closed receipts
HasReceipts Lost receipts = EndsWith links.Failed receipts
HasReceipts _ receipts = AllGoOn receipts

-- What stands behind the frames that were answered: less than a frame, a frame or a fault that is hung up on, or,
-- where a send failed, what was not looked at any more.
abbrev pub StandsBehind : (number : ℕ) → Ending → List ℕ → Type 0
StandsBehind number Refused behind =
    ((frame : Frame) × Begins behind frame × IsHungUpOn number frame) ⊎ ((fault : FrameFault) × HasFault behind fault)
StandsBehind number Unsent behind = Unit {0}
StandsBehind number _ behind = IsUnfinished behind

-- The bytes that were sent: the answers in order. Where a send failed, the last is cut short, down to nothing.
abbrev pub IsSent : Ending → List Answered → List ℕ → Type 0
IsSent Unsent answers sent =
    (whole : List Answered) × (last : Answered) × (count : ℕ)
    × (answers ≡ whole ++ last ∷ []) × (count < length (frame_spelling last.answer))
    × (sent ≡ answer_bytes whole ++ take count (frame_spelling last.answer))
IsSent _ answers sent = sent ≡ answer_bytes answers

-- A link was dialed where the inverter is reached, and what came on it was answered, frame by frame, up to its end.
pub record IsVisit (port : PortRecord) (number : ℕ) (visit : Visit) : Type 0 where
  pub host : visit.link.host ≡ port.host
  pub port_number : visit.link.port ≡ port.port
  pub receipts : HasReceipts visit.ending visit.link.receipts
  pub frames : AllByRecursion (λ answered. IsFrame answered.asked) visit.answers
  pub received : (behind : List ℕ)
      × (received_bytes visit.link ≡ asked_bytes visit.answers ++ behind) × StandsBehind number visit.ending behind
  pub sent : IsSent visit.ending visit.answers visit.link.sent

-- a dial may follow: this one failed, or its link came to its end
abbrev pub MayDial : Ending → Type 0
MayDial Open = ⊥
MayDial _ = Unit {0}

abbrev pub IsOver : Dial → Type 0
IsOver Missed = Unit {0}
IsOver (Made visit) = MayDial visit.ending

-- the turns of a dial: itself, and each receive on its link
abbrev pub turns_of : Dial → ℕ
turns_of Missed = 1
turns_of (Made visit) = 1 + length visit.link.receipts

-- the calls that failed: a dial, a receive, or a send
abbrev pub failures_on : Ending → ℕ
failures_on Lost = 1
failures_on Unsent = 1
failures_on _ = 0

abbrev pub failures_of : Dial → ℕ
failures_of Missed = 1
failures_of (Made visit) = failures_on visit.ending

-- a link that has come to its end is hung up, or a receive that failed has ended it
abbrev pub up_of : Ending → Link → Option Link
up_of Open link = Some link
up_of _ link = None

-- the links that were made, with what was answered on them
abbrev pub visit_of : Dial → List Visit
visit_of Missed = []
visit_of (Made visit) = visit ∷ []

abbrev pub visits_of : List Dial → List Visit
visits_of dials = flat_map visit_of dials

abbrev pub links_of : List Dial → List Link
links_of dials = map (λ visit. visit.link) (visits_of dials)

-- the link that is up behind these, where this one was up before
abbrev pub up_behind : Option Link → List Visit → Option Link
up_behind before [] = before
up_behind before (visit ∷ later) = up_behind (up_of visit.ending visit.link) later

-- all answers, in order
abbrev pub answers_of : List Dial → List Answered
answers_of dials = flat_map (λ visit. visit.answers) (visits_of dials)

-- The count is higher by so much at least. Where it stands at the last value of 64 bits it is taken as risen.
abbrev pub RoseBy : ℕ → ℕ → ℕ → Type 0
RoseBy amount before now = min (before + amount) (2 ^ 64 - 1) ≤ now

-- an inverter was served in so many turns, by these dials
pub record IsServed (may_give : ℕ → Bool) (bank : BankRecord) (port : PortRecord) (turns : ℕ) (dials : List Dial)
    (old new : Option Links) (before now : ℕ) : Type 0 where
  -- each turn is a dial or a receive
  pub turns_made : sum_by turns_of dials ≡ turns
  pub faults : RoseBy (sum_by failures_of dials) before now
  -- before each dial but the first the one before had failed, or its link had come to its end
  pub order : AllByRecursion IsOver (take (length dials - 1) dials)
  pub visits : AllByRecursion (IsVisit port bank.number) (visits_of dials)
  -- the answers are those of the bank, at readings of the clock that never fall
  pub answers : AreAnswers bank (answers_of dials)
  pub moments : AllByRecursion (λ answered. IsTrue (may_give answered.at)) (answers_of dials)
  -- where the dialer tells the record, its new links are these, and one is up exactly where it hasn't come to its end
  pub told : option_map all_links new ≡ option_map (λ links. all_links links ++ links_of dials) old
  pub up : option_map (λ links. links.current) new ≡ option_map (λ links. up_behind links.current (visits_of dials)) old
