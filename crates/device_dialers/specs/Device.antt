-- What contracts see of a dialer whose links reach a simulated inverter, and its state after each call.
use Rattle.std.specs.Prelude.{◌≡◌, ℕ, ◌⊎◌, Bool, IsTrue, List, [], ◌∷◌, ◌++◌, drop, max, take}
use Rattle.std.specs.List.{AllByRecursion}
use Rattle.world_traits.specs.Causes.{one_more}
use Rattle.world_traits.specs.Fakes.{ScheduleState, FailsNext, new_schedule, after_success, after_failure}
use Rattle.world_traits.specs.Links.{Answer, Quiet, Closed, Links, IsDown, no_links, after_hang_up, with_bytes, with_failure, with_link, with_receipt}
use Rattle.world_traits.specs.Plays.{some_bytes}
use Rattle.mbap_frames.specs.declared.frame.Frame.{Frame}
use Rattle.mbap_frames.specs.declared.frame.FrameFault.{FrameFault}
use Rattle.mbap_frames.specs.Frame.{Begins, IsFrame}
use Rattle.mbap_frames.specs.Stream.{HasFault, IsUnfinished}
use Rattle.inverter_sim.specs.Bank.{BankRecord}
use Rattle.inverter_server.specs.Answers.{Answered, AreAnswers, IsHungUpOn, asked_bytes, answer_bytes, bank_after_all}
use Rattle.device_dialers.specs.declared.hearing.Standing.{Standing}
use Rattle.device_dialers.specs.declared.hearing.Standing.TheVariants.{Listens, HungUp, Told}

-- bytes that wait to be given, and for how many more there is room
pub record Waiting : Type 0 where
  pub left : List ℕ
  pub room : ℕ

-- The record of the links, the clock with the greatest of its readings so far, or 0 before the first, and the
-- inverter; on the link that is up what came of a request that isn't whole, the reply bytes that are left, and how
-- the inverter stands to it; which calls fail, and the count of refusals for memory. Where no link is up, nothing
-- is left of one.
pub record DeviceDialerState (K : Type 0) : Type 0 where
  pub links : Links
  pub clock : K
  pub latest : ℕ
  pub bank : BankRecord
  pub kept : List ℕ
  pub left : List ℕ
  pub standing : Standing
  pub schedule : ScheduleState
  pub starved : ℕ

-- no call yet
abbrev pub new_dialer : {K : Type 0} → BankRecord → K → List ℕ → DeviceDialerState K
new_dialer bank clock failing = record {
  links = no_links;
  clock = clock;
  latest = 0;
  bank = bank;
  kept = [];
  left = [];
  standing = Listens;
  schedule = new_schedule failing;
  starved = 0;
}

-- a dial is to fail where it is listed; a send and a receive where they are, or no link is up
abbrev pub FailsDial : {K : Type 0} → DeviceDialerState K → Type 0
FailsDial state = FailsNext state.schedule

abbrev pub FailsOnLink : {K : Type 0} → DeviceDialerState K → Type 0
FailsOnLink state = FailsNext state.schedule ⊎ IsDown state.links

-- one call more was counted, which worked
abbrev pub after_count : {K : Type 0} → DeviceDialerState K → DeviceDialerState K
after_count state = record state { schedule = after_success state.schedule }

-- these links, with nothing left of the one that was up
abbrev pub with_fresh_links : {K : Type 0} → Links → DeviceDialerState K → DeviceDialerState K
with_fresh_links links state = record state { links = links; kept = []; left = []; standing = Listens }

-- after a dial that worked, and after a hang-up
abbrev pub after_good_dial : {K : Type 0} → List ℕ → ℕ → DeviceDialerState K → DeviceDialerState K
after_good_dial host port state =
    with_fresh_links (with_link host port state.links) (after_count state)

abbrev pub after_end : {K : Type 0} → DeviceDialerState K → DeviceDialerState K
after_end state = with_fresh_links (after_hang_up state.links) state

-- after a dial or a send that was to fail, and after such a receive
abbrev pub after_bad_call : {K : Type 0} → DeviceDialerState K → DeviceDialerState K
after_bad_call state = record state { schedule = after_failure state.schedule }

abbrev pub after_bad_receive : {K : Type 0} → DeviceDialerState K → DeviceDialerState K
after_bad_receive state = with_fresh_links (with_failure state.links) (after_bad_call state)

-- the same, with one refusal for memory more
abbrev pub short_of_memory : {K : Type 0} → DeviceDialerState K → DeviceDialerState K
short_of_memory state = record state { starved = one_more state.starved }

-- What a receive with so much room answers: reply bytes that are left, as many as find room; where none is left,
-- that the link is closed, if the inverter has hung up and no receive has told it yet, and else that nothing came.
abbrev pub next_answer : (room : ℕ) → (left : List ℕ) → Standing → Answer
next_answer room (byte ∷ bytes) standing = some_bytes (take room (byte ∷ bytes))
next_answer room [] Listens = Quiet
next_answer room [] HungUp = Closed
next_answer room [] Told = Quiet

abbrev pub next_standing : (left : List ℕ) → Standing → Standing
next_standing (byte ∷ bytes) standing = standing
next_standing [] Listens = Listens
next_standing [] HungUp = Told
next_standing [] Told = Told

-- after a receive that worked
abbrev pub after_good_receive : {K : Type 0} → ℕ → DeviceDialerState K → DeviceDialerState K
after_good_receive room state = record state {
  links = with_receipt (next_answer room state.left state.standing) state.links;
  left = drop room state.left;
  standing = next_standing state.left state.standing;
  schedule = after_success state.schedule;
}

-- one reading more, of those that a clock may give: the greatest was this before it, and is this behind it
abbrev pub IsRead : (ℕ → Bool) → (before greatest : ℕ) → Type 0
IsRead may_give before greatest = (reading : ℕ) × IsTrue (may_give reading) × (greatest ≡ max before reading)

-- Each was answered at the greatest reading so far, with one reading more for each: the greatest was this before,
-- and is this behind.
abbrev pub AreAtReadings : (ℕ → Bool) → (before : ℕ) → List Answered → (greatest : ℕ) → Type 0
AreAtReadings may_give before [] greatest = greatest ≡ before
AreAtReadings may_give before (answered ∷ later) greatest =
    IsRead may_give before answered.at × AreAtReadings may_give answered.at later greatest

-- The frames at the front of a stream were answered in order, at moments that the clock may give and that never fall.
pub record AreHeard
    (may_give : ℕ → Bool) (old new : BankRecord) (stream behind : List ℕ) (answers : List Answered) : Type 0 where
  pub replies : AreAnswers old answers
  pub bank : new ≡ bank_after_all old answers
  pub moments : AllByRecursion (λ answered. IsTrue (may_give answered.at)) answers
  pub frames : AllByRecursion (λ answered. IsFrame answered.asked) answers
  pub whole : stream ≡ asked_bytes answers ++ behind

-- A frame or a fault stands there that is hung up on. For a whole frame the clock was read once more, for a fault
-- it wasn't.
abbrev pub HangsUp : (ℕ → Bool) → (number : ℕ) → (behind : List ℕ) → (before greatest : ℕ) → Type 0
HangsUp may_give number behind before greatest =
    ((frame : Frame) × Begins behind frame × IsHungUpOn number frame × IsRead may_give before greatest)
    ⊎ ((fault : FrameFault) × HasFault behind fault × (greatest ≡ before))

-- What an inverter that listens makes of a stream: it answers each frame, up to the first frame or fault that it
-- hangs up on. Of the stream it keeps the part of a request behind the frames, and nothing where it has hung up.
abbrev pub Hears :
    (ℕ → Bool) → (old new : BankRecord) → (before greatest : ℕ) → (stream kept left after : List ℕ) → Standing → Type 0
Hears may_give old new before greatest stream kept left after Listens =
    (answers : List Answered) × AreHeard may_give old new stream kept answers
    × AreAtReadings may_give before answers greatest × IsUnfinished kept × (after ≡ left ++ answer_bytes answers)
Hears may_give old new before greatest stream kept left after HungUp =
    (answers : List Answered) × (behind : List ℕ) × AreHeard may_give old new stream behind answers
    × ((last : ℕ) × AreAtReadings may_give before answers last × HangsUp may_give old.number behind last greatest)
    × (kept ≡ []) × (after ≡ left ++ answer_bytes answers)
Hears may_give old new before greatest stream kept left after Told = ⊥

-- the inverter and the link that is up are as they were
pub record IsUntouched {K : Type 0} (old new : DeviceDialerState K) : Type 0 where
  pub bank : new.bank ≡ old.bank
  pub latest : new.latest ≡ old.latest
  pub kept : new.kept ≡ old.kept
  pub left : new.left ≡ old.left
  pub standing : new.standing ≡ old.standing

-- what an inverter makes of a piece, by how it stands to the link: behind a hang-up of its own it doesn't look at it
abbrev pub TakesPiece :
    {K : Type 0} → (ℕ → Bool) → (piece : List ℕ) → (old new : DeviceDialerState K) → Standing → Type 0
TakesPiece may_give piece old new Listens =
    Hears may_give old.bank new.bank old.latest new.latest (old.kept ++ piece) new.kept old.left new.left new.standing
TakesPiece may_give piece old new HungUp = IsUntouched old new
TakesPiece may_give piece old new Told = IsUntouched old new

-- a piece was handed to the inverter whole, and nothing else was done
pub record IsDelivered
    {K : Type 0} (may_give : ℕ → Bool) (piece : List ℕ) (old new : DeviceDialerState K) : Type 0 where
  pub links : new.links ≡ with_bytes piece old.links
  pub clock : new.clock ≡ old.clock
  pub schedule : new.schedule ≡ old.schedule
  pub starved : new.starved ≡ old.starved
  pub taken : TakesPiece may_give piece old new old.standing
