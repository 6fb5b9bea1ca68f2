-- What a server keeps between two turns, and what one turn does. No promise to a caller names this, but for the
-- state of a device.
use Rattle.std.specs.Prelude.{◌≡◌, ℕ, ◌+◌, ◌⊎◌, Bool, IsTrue, List, [], ◌++◌, length, sum_by, Option, Some, None}
use Rattle.std.specs.List.{AllByRecursion}
use Rattle.std.specs.Option.{option_map}
use Rattle.world_traits.specs.Causes.{Rose}
use Rattle.world_traits.specs.Links as links
use Rattle.world_traits.specs.Links.{Link, Links, IsCutShort, all_links, received_bytes, after_hang_up, with_bytes, with_failure, with_receipt}
use Rattle.mbap_frames.specs.declared.frame.Frame.{Frame}
use Rattle.mbap_frames.specs.Frame.{IsFrame, frame_spelling}
use Rattle.mbap_frames.specs.Stream.{IsUnfinished}
use Rattle.plant_book.specs.Port.{PortRecord}
use Rattle.inverter_sim.specs.Bank.{BankRecord}
use Rattle.inverter_server.specs.declared.piece.Course.{Course}
use Rattle.inverter_server.specs.declared.piece.Course.TheVariants as course
use Rattle.inverter_server.specs.Answers.{Answered, IsAnsweredBy, IsHungUpOn, AreAnswers, asked_bytes, answer_bytes, bank_after_all}
use Rattle.inverter_server.specs.Serving.{Dial, Ending, Open, Closed, Lost, Refused, Unsent, Visit, AllGoOn, GoesOn, IsOver, IsSent, IsVisit, MayDial, RoseBy, StandsBehind, answers_of, failures_of, failures_on, links_of, turns_of, up_behind, visits_of}

-- the bank, the clock, and the greatest of its readings so far, or 0 before the first
pub record DeviceState (K : Type 0) : Type 0 where
  pub bank : BankRecord
  pub clock : K
  pub latest : ℕ

-- the bank, the record and the count of faults at some point
pub record State : Type 0 where
  pub bank : BankRecord
  pub links : Option Links
  pub faults : ℕ

-- What became of a frame: it was answered; or it was hung up on, or the send of its answer failed.
abbrev pub HandlesFrame : (ℕ → Bool) → Frame → (old new : State) → Course → Type 0
HandlesFrame may_give frame old new course.GoesOn =
    (at : ℕ) × (answer : Frame) × IsAnsweredBy old.bank at frame answer new.bank × IsTrue (may_give at)
    × (new.links ≡ option_map (with_bytes (frame_spelling answer)) old.links) × (new.faults ≡ old.faults)
HandlesFrame may_give frame old new course.Ends =
    (IsHungUpOn old.bank.number frame × (new ≡ old))
    ⊎ ((at : ℕ) × (answer : Frame) × IsAnsweredBy old.bank at frame answer new.bank × IsTrue (may_give at)
    × IsCutShort (frame_spelling answer) old.links new.links × Rose old.faults new.faults)

-- These frames at the front of a stream were answered, and no send failed.
pub record IsProgress
    (may_give : ℕ → Bool) (old new : State) (stream behind : List ℕ) (answers : List Answered) : Type 0 where
  pub replies : AreAnswers old.bank answers
  pub bank : new.bank ≡ bank_after_all old.bank answers
  pub number : new.bank.number ≡ old.bank.number
  pub moments : AllByRecursion (λ answered. IsTrue (may_give answered.at)) answers
  pub frames : AllByRecursion (λ answered. IsFrame answered.asked) answers
  pub whole : stream ≡ asked_bytes answers ++ behind
  pub links : new.links ≡ option_map (with_bytes (answer_bytes answers)) old.links
  pub faults : new.faults ≡ old.faults

-- What became of a stream: these frames at its front were answered, up to this end, and these bytes were sent.
pub record IsAnsweredUpTo (may_give : ℕ → Bool) (old new : State) (stream behind : List ℕ) (answers : List Answered)
    (ending : Ending) (sent : List ℕ) : Type 0 where
  pub replies : AreAnswers old.bank answers
  pub bank : new.bank ≡ bank_after_all old.bank answers
  pub number : new.bank.number ≡ old.bank.number
  pub moments : AllByRecursion (λ answered. IsTrue (may_give answered.at)) answers
  pub frames : AllByRecursion (λ answered. IsFrame answered.asked) answers
  pub whole : stream ≡ asked_bytes answers ++ behind
  pub stands : StandsBehind old.bank.number ending behind
  pub spelled : IsSent ending answers sent
  pub links : new.links ≡ option_map (with_bytes sent) old.links
  pub faults : RoseBy (failures_on ending) old.faults new.faults

-- the link ended by what the server did: it hung up on what came, or its send failed
abbrev pub IsOurs : Ending → Type 0
IsOurs Refused = Unit {0}
IsOurs Unsent = Unit {0}
IsOurs _ = ⊥

-- what became of a piece that came behind the bytes that were kept
abbrev pub HandlesPiece : (ℕ → Bool) → (stream kept : List ℕ) (old new : State) → Course → Type 0
HandlesPiece may_give stream kept old new course.GoesOn =
    (answers : List Answered) × IsUnfinished kept
    × IsAnsweredUpTo may_give old new stream kept answers Open (answer_bytes answers)
HandlesPiece may_give stream kept old new course.Ends =
    (behind : List ℕ) × (answers : List Answered) × (ending : Ending) × (sent : List ℕ) × IsOurs ending
    × IsAnsweredUpTo may_give old new stream behind answers ending sent

-- the record behind a receive that came to this
abbrev pub after_receive : links.Answer → Links → Links
after_receive links.Failed links = with_failure links
after_receive answer links = with_receipt answer links

-- what a receive came to, where the link has this end then
abbrev pub CameTo : Ending → links.Answer → Type 0
CameTo Closed answer = answer ≡ links.Closed
CameTo Lost answer = answer ≡ links.Failed
CameTo _ answer = GoesOn answer

-- A receive, and the answers to the frames that are whole then. Where the link has come to its end it may be hung
-- up then.
pub record IsAttended (may_give : ℕ → Bool) (old new : State) (kept behind : List ℕ) (came : links.Answer)
    (answers : List Answered) (ending : Ending) (sent : List ℕ) (after : Links → Links) : Type 0 where
  pub replies : AreAnswers old.bank answers
  pub bank : new.bank ≡ bank_after_all old.bank answers
  pub number : new.bank.number ≡ old.bank.number
  pub moments : AllByRecursion (λ answered. IsTrue (may_give answered.at)) answers
  pub frames : AllByRecursion (λ answered. IsFrame answered.asked) answers
  pub whole : kept ++ links.answer_bytes came ≡ asked_bytes answers ++ behind
  pub stands : StandsBehind old.bank.number ending behind
  pub answered : CameTo ending came
  pub spelled : IsSent ending answers sent
  pub unsent : came ≡ links.Failed → sent ≡ []
  pub links : new.links ≡ option_map (λ links. after (with_bytes sent (after_receive came links))) old.links
  pub faults : RoseBy (failures_on ending) old.faults new.faults

-- the same, by what becomes of the link, and by what is kept of the stream then
abbrev pub GoesOnAttended : (ℕ → Bool) → (kept after : List ℕ) → (old new : State) → Type 0
GoesOnAttended may_give kept after old new =
    (came : links.Answer) × (answers : List Answered) × IsUnfinished after
    × IsAttended may_give old new kept after came answers Open (answer_bytes answers) (λ links. links)

abbrev pub EndsAttended : (ℕ → Bool) → (kept : List ℕ) → (old new : State) → (Links → Links) → Type 0
EndsAttended may_give kept old new end =
    (came : links.Answer) × (behind : List ℕ) × (answers : List Answered) × (ending : Ending) × (sent : List ℕ)
    × MayDial ending × IsAttended may_give old new kept behind came answers ending sent end

abbrev pub Receives : (ℕ → Bool) → (kept after : List ℕ) → (old new : State) → Course → Type 0
Receives may_give kept after old new course.GoesOn = GoesOnAttended may_give kept after old new
Receives may_give kept after old new course.Ends = EndsAttended may_give kept old new (λ links. links)

abbrev pub Attends : (ℕ → Bool) → (old new : State) → (kept : List ℕ) → (after : Option (List ℕ)) → Type 0
Attends may_give old new kept (Some after) = GoesOnAttended may_give kept after old new
Attends may_give old new kept None = EndsAttended may_give kept old new after_hang_up

-- how the serving began: what the clock may give, where the inverter is reached, and the state
pub record Start : Type 0 where
  pub may_give : ℕ → Bool
  pub port : PortRecord
  pub state : State

-- What was done up to now: dials that are over, and answers on the link that is up, if one is.
pub record HasServed (start : Start) (now : State) (done : List Dial) (answers : List Answered) : Type 0 where
  pub over : AllByRecursion IsOver done
  pub visits : AllByRecursion (IsVisit start.port start.state.bank.number) (visits_of done)
  pub replies : AreAnswers start.state.bank (answers_of done ++ answers)
  pub bank : now.bank ≡ bank_after_all start.state.bank (answers_of done ++ answers)
  pub number : now.bank.number ≡ start.state.bank.number
  pub moments : AllByRecursion (λ answered. IsTrue (start.may_give answered.at)) (answers_of done ++ answers)
  pub faults : RoseBy (sum_by failures_of done) start.state.faults now.faults

-- the link that is up, on which what was kept stands behind the frames that were answered
pub record IsUp (start : Start) (kept : List ℕ) (visit : Visit) : Type 0 where
  pub ending : visit.ending ≡ Open
  pub host : visit.link.host ≡ start.port.host
  pub port_number : visit.link.port ≡ start.port.port
  pub receipts : AllGoOn visit.link.receipts
  pub frames : AllByRecursion (λ answered. IsFrame answered.asked) visit.answers
  pub received : received_bytes visit.link ≡ asked_bytes visit.answers ++ kept
  pub unfinished : IsUnfinished kept
  pub sent : visit.link.sent ≡ answer_bytes visit.answers

-- the record with the links of these dials, and with this one up
abbrev pub all_links_with : List Dial → Links → List Link
all_links_with done links = all_links links ++ links_of done

abbrev pub up_links : List Dial → Link → Links → Links
up_links done link links = record { past = all_links_with done links; current = Some link }

-- the link that is up
abbrev pub link_up : Links → Option Link
link_up links = links.current

abbrev pub link_up_behind : List Dial → Links → Option Link
link_up_behind done links = up_behind links.current (visits_of done)

-- what stands after so many turns, by what is kept of the stream where a link is up
abbrev pub Stands : Start → (turns : ℕ) → State → Option (List ℕ) → Type 0
Stands start turns now None =
    (done : List Dial) × HasServed start now done []
    × (sum_by turns_of done ≡ turns)
    × (option_map all_links now.links ≡ option_map (all_links_with done) start.state.links)
    × (option_map link_up now.links ≡ option_map (link_up_behind done) start.state.links)
Stands start turns now (Some kept) =
    (done : List Dial) × (visit : Visit) × HasServed start now done visit.answers × IsUp start kept visit
    × (sum_by turns_of done + (1 + length visit.link.receipts) ≡ turns)
    × (now.links ≡ option_map (up_links done visit.link) start.state.links)
