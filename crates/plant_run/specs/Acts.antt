-- What was done in a run, and on which of its links.
use Rattle.std.specs.Prelude.{◌≡◌, ℕ, ◌<◌, Bool, true, false, if◌then◌else◌}
use Rattle.std.specs.Prelude.{List, [], ◌∷◌, ◌++◌, length, take}
use Rattle.std.specs.List.{AllByRecursion, flat_map}
use Rattle.world_traits.specs.Links.{Receipt}
use Rattle.mbap_frames.specs.declared.frame.Frame.{Frame}
use Rattle.mbap_frames.specs.Frame.{frame_spelling}
use Rattle.inverter_worker.specs.declared.job.Job.{Job}
use Rattle.inverter_worker.specs.declared.input.Input.{Input}
use Rattle.inverter_worker.specs.declared.input.Input.TheVariants as input
use Rattle.inverter_worker.specs.declared.output.Output.{Output}
use Rattle.inverter_worker.specs.declared.output.Output.TheVariants as output
use Rattle.inverter_worker.specs.Runs.{RunStep}
use Rattle.worker_turn.specs.Doing.{request_frame}

-- an output that was done, with the input that came of it
pub record Act : Type 0 where
  pub output : Output
  pub came : Input

-- the acts of a run, in order: of its first output, and of its steps
abbrev pub acts : Output → List RunStep → List Act
acts output [] = []
acts output (next ∷ later) = record { output = output; came = next.input } ∷ acts next.output later

-- whether an input says that a link was dialed
abbrev pub is_dialed : Input → Bool
is_dialed input.Dialed = true
is_dialed came = false

-- the acts before the first dial that worked
abbrev pub before_links : List Act → List Act
before_links [] = []
before_links (act ∷ later) = if is_dialed act.came then [] else act ∷ before_links later

-- the acts on each link, in order: those behind each dial that worked, up to the next that did
abbrev pub on_links : List Act → List (List Act)
on_links [] = []
on_links (act ∷ later) = if is_dialed act.came then before_links later ∷ on_links later else on_links later

-- an output that has nothing to do with the bytes of a link
abbrev pub IsNoTransfer : Output → Type 0
IsNoTransfer (output.Send request clock) = ⊥
IsNoTransfer output.Receive = ⊥
IsNoTransfer output = Unit {0}

-- a frame that was to be sent: it went out whole, or its send failed
pub data Attempt : Type 0 where
  Whole : Frame → Attempt
  CutShort : Frame → Attempt

-- the frame of a request that was to be sent
abbrev pub attempt_in : Job → Output → Input → List Attempt
attempt_in job (output.Send request clock) input.SentAll = Whole (request_frame job request) ∷ []
attempt_in job (output.Send request clock) input.SendFailed = CutShort (request_frame job request) ∷ []
attempt_in job output came = []

-- the frames of all requests that were to be sent, in order
abbrev pub attempts : Job → List Act → List Attempt
attempts job done = flat_map (λ act. attempt_in job act.output act.came) done

-- These bytes were sent: each frame, in order. Only the last may be cut short, down to nothing, where its
-- send failed.
abbrev pub HaveSent : List Attempt → List ℕ → Type 0
HaveSent [] bytes = bytes ≡ []
HaveSent (Whole frame ∷ later) bytes =
    (others : List ℕ) × (bytes ≡ frame_spelling frame ++ others) × HaveSent later others
HaveSent (CutShort frame ∷ []) bytes =
    (count : ℕ) × (count < length (frame_spelling frame)) × (bytes ≡ take count (frame_spelling frame))
HaveSent (CutShort frame ∷ another ∷ later) bytes = ⊥

-- the bytes of a frame that went out whole
abbrev pub whole : List Attempt → List ℕ
whole (Whole frame ∷ []) = frame_spelling frame
whole other = []

-- a receive of a wait, before which so many bytes were sent on the link
pub record IsCounted (act : Act) (sent : List ℕ) (receipt : Receipt) : Type 0 where
  pub waits : act.output ≡ output.Receive
  pub count : receipt.sent_before ≡ length sent

-- The receipts of acts on a link on which these bytes were sent before, in order: each is of a wait, and counts the
-- bytes sent before it, which are those and the frames that these acts had sent by then.
abbrev pub AreCounted : Job → (sent : List ℕ) → List Act → List Receipt → Type 0
AreCounted job sent [] receipts = receipts ≡ []
AreCounted job sent (act ∷ later) receipts =
    (here : List Receipt) × (behind : List Receipt) × (receipts ≡ here ++ behind)
    × AllByRecursion (IsCounted act sent) here
    × AreCounted job (sent ++ whole (attempt_in job act.output act.came)) later behind

-- the last of these frames went out whole
pub record EndsWhole (before : List Attempt) : Type 0 where
  pub earlier : List Attempt
  pub frame : Frame
  pub is : before ≡ earlier ++ Whole frame ∷ []

-- A receive of a wait on a link on which these bytes were sent in all, behind these frames that were to be sent: the
-- last of them went out whole, and the bytes that were sent before the receive end with it.
pub record IsAfterWhole (sent : List ℕ) (before : List Attempt) (act : Act) (receipt : Receipt) : Type 0 where
  pub waits : act.output ≡ output.Receive
  pub whole : EndsWhole before
  pub bytes : List ℕ
  pub behind : List ℕ
  pub stands : sent ≡ bytes ++ (frame_spelling whole.frame ++ behind)
  pub count : receipt.sent_before ≡ length (bytes ++ frame_spelling whole.frame)

-- the receipts of acts on such a link, in order
abbrev pub AreAfterWhole : Job → (sent : List ℕ) → (before : List Attempt) → List Act → List Receipt → Type 0
AreAfterWhole job sent before [] receipts = receipts ≡ []
AreAfterWhole job sent before (act ∷ later) receipts =
    (here : List Receipt) × (behind : List Receipt) × (receipts ≡ here ++ behind)
    × AllByRecursion (IsAfterWhole sent before act) here
    × AreAfterWhole job sent (before ++ attempt_in job act.output act.came) later behind
