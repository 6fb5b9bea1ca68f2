-- How a commissioning ends, and what stands on its link and in its output at each end.
use Rattle.std.specs.Prelude.{◌≡◌, ◌≢◌, ℕ, ◌<◌, List, [], ◌∷◌, ◌++◌, length, map, take, Option, Some, IsSome, Result, Ok, Err}
use Rattle.std.specs.List.{AllByRecursion}
use Rattle.std.specs.Io.KnownBytes.{Appends}
use Rattle.world_traits.specs.Links.{Answer, Bytes, Quiet, Closed, Failed, Link, Receipt, received_bytes}
use Rattle.mbap_frames.specs.declared.frame.Frame.{Frame}
use Rattle.mbap_frames.specs.Frame.{frame_spelling}
use Rattle.mbap_frames.specs.Stream.{IsStream, HasFaultBehind, frames_spelling}
use Rattle.commissioning.specs.declared.fault.CommissionFault.{CommissionFault}
use Rattle.commissioning.specs.declared.found.Record702.{Record702}
use Rattle.commissioning.specs.declared.target.Target.{Target}
use Rattle.commissioning.specs.Stage.{Commissioned, found_at}
use Rattle.commissioning.specs.Asking.{asked}
use Rattle.commissioning.specs.Taking.{answer}
use Rattle.commissioning.specs.Runs.{standing_after, requests}
use Rattle.commission_run.specs.declared.stop.Stop.{Stop}
use Rattle.commission_run.specs.declared.stop.Stop.TheVariants.{WriteFailed, Refused}
use Rattle.commission_run.specs.declared.stop.Refusal.TheVariants as by
use Rattle.commission_run.specs.Lines.{passed_text}
use Rattle.stream_io.specs.Streams.{AppendsFront}
use Rattle.commission_run.specs.Course.{AreFirst, answered, EachAwaits}

-- the end of a commissioning: done, or stopped
abbrev pub Outcome : Type 0
Outcome = Result (Unit {0}) Stop

-- what an end says of the calls of the dialer: one failed, a dial, a send or a receive; none at any other end
abbrev pub at_dialer : {T : Type 0} → Result T Stop → Result (Unit {0}) (Unit {0})
at_dialer (Err (Refused by.Dial)) = Err tt
at_dialer (Err (Refused by.Send)) = Err tt
at_dialer (Err (Refused by.Recv)) = Err tt
at_dialer _ = Ok tt

-- what an end says of the writes
abbrev pub at_output : {T : Type 0} → Result T Stop → Result (Unit {0}) (Unit {0})
at_output (Err WriteFailed) = Err tt
at_output _ = Ok tt

-- The bytes sent: the requests in order up to the one that is asked at the end. The last is cut short where a send
-- failed, and isn't sent where a line before it couldn't be written.
abbrev pub IsSent : Target → Outcome → List Frame → List ℕ → Type 0
IsSent target (Err (Refused by.Send)) frames sent =
    (request : Frame) × (asked (standing_after target frames) ≡ Some request)
    × (count : ℕ) × (count < length (frame_spelling request))
    × (sent ≡ frames_spelling (answered target frames) ++ take count (frame_spelling request))
IsSent target (Err WriteFailed) frames sent = sent ≡ frames_spelling (answered target frames)
IsSent target _ frames sent = sent ≡ frames_spelling (requests target frames)

-- what the last receive answered, where that is the end
abbrev pub last_answer : Outcome → List Answer
last_answer (Err (Refused by.Quiet)) = Quiet ∷ []
last_answer (Err (Refused by.Closed)) = Closed ∷ []
last_answer (Err (Refused by.Recv)) = Failed ∷ []
last_answer _ = []

-- the receives answered bytes, and then what ends it
abbrev pub AreAnswers : Outcome → List Receipt → Type 0
AreAnswers outcome receipts = (pieces : List (List ℕ))
    × (map (λ receipt. receipt.answer) receipts ≡ map Bytes pieces ++ last_answer outcome)

-- the last of the frames is answered by this fault
abbrev pub TakesFault : Target → List Frame → CommissionFault → Type 0
TakesFault target frames fault = (before : List Frame) × (last : Frame) × (frames ≡ before ++ last ∷ [])
    × IsSome (asked (standing_after target before)) × (answer (standing_after target before) last ≡ Err fault)

-- the frames lead to the end of a commissioning
abbrev pub Commission : Target → List Frame → Type 0
Commission target frames = (found : Record702) × ((standing_after target frames).stage ≡ Commissioned found)

-- Why it ended, where these frames were taken out of the bytes that came: all points were passed; a line was due; a
-- fault stands behind the frames; or they lead to a fault. At the other ends a request is asked still. A link that
-- wasn't made has no such end.
abbrev pub IsCause : Target → Outcome → List Frame → (came : List ℕ) → Type 0
IsCause target (Ok _) frames came = Commission target frames
IsCause target (Err WriteFailed) frames came = IsSome (found_at (standing_after target frames).stage)
IsCause target (Err (Refused by.Dial)) frames came = ⊥
IsCause target (Err (Refused (by.BadFrame fault))) frames came =
    IsSome (asked (standing_after target frames)) × HasFaultBehind came frames fault
IsCause target (Err (Refused (by.Commission fault))) frames came = TakesFault target frames fault
IsCause target (Err (Refused _)) frames came = IsSome (asked (standing_after target frames))

-- the output gained the lines of the points that were passed; where a write failed, the first bytes of them
abbrev pub IsWritten : Outcome → (text : List ℕ) → Option (List ℕ) → Option (List ℕ) → Type 0
IsWritten (Err WriteFailed) text old new = AppendsFront old new text
IsWritten _ text old new = Appends old new text

-- A commissioning over a link ended so, after it took these frames.
pub record IsCourse (target : Target) (inverter : ℕ) (outcome : Outcome) (frames : List Frame) (link : Link)
    (old new : Option (List ℕ)) : Type 0 where
  -- the link was dialed at the inverter's port
  pub host : link.host ≡ target.port.host
  pub port : link.port ≡ target.port.port
  -- the requests in their order
  pub sent : IsSent target outcome frames link.sent
  -- each receive behind a whole one that isn't answered
  pub receives : EachAwaits target [] link.receipts
  -- the frames taken are the first of the bytes that came
  pub first : AreFirst frames (received_bytes link)
  -- Quiet, Closed and a failed receive exactly where the last receive answered so
  pub answers : AreAnswers outcome link.receipts
  pub cause : IsCause target outcome frames (received_bytes link)
  pub written : IsWritten outcome (passed_text inverter (standing_after target frames).stage) old new

-- The bytes that came are the replies of an inverter that is commissioned: the frames among them lead to the end,
-- and no receive answered that nothing came or that the link is closed.
pub record HasReplies (target : Target) (link : Link) : Type 0 where
  pub frames : List Frame
  pub rest : List ℕ
  pub stream : IsStream (received_bytes link) frames rest
  pub end : Commission target frames
  pub heard : AllByRecursion (λ receipt. receipt.answer ≢ Quiet) link.receipts
  pub open_link : AllByRecursion (λ receipt. receipt.answer ≢ Closed) link.receipts
