-- What a run whose outputs were done has to do with the book and the dialer.
use Rattle.std.specs.Prelude.{◌≡◌, ℕ, ◌<◌, ◌≤◌, List, [], ◌∷◌, ◌++◌, Option, Some, length, map, take}
use Rattle.std.specs.List.{flat_map}
use Rattle.world_traits.specs.Links.{Link, Links, all_links, received_bytes}
use Rattle.mbap_frames.specs.declared.frame.Frame.{Frame}
use Rattle.mbap_frames.specs.Frame.{frame_spelling}
use Rattle.mbap_frames.specs.Stream.{frames_spelling}
use Rattle.inverter_worker.specs.declared.job.Job.{Job}
use Rattle.worker_turn.specs.Doing.{request_frame}
use Rattle.plant_book.specs.declared.book.Entry.{Entry}
use Rattle.plant_book.specs.Calls.{moment, at_moment}
use Rattle.plant_ledger.specs.Release.{back_of}
use Rattle.inverter_worker.specs.declared.input.Input.{Input}
use Rattle.inverter_worker.specs.declared.input.Input.TheVariants as input
use Rattle.inverter_worker.specs.declared.output.Output.{Output}
use Rattle.inverter_worker.specs.declared.output.Output.TheVariants as output
use Rattle.inverter_worker.specs.Runs.{RunStep}

-- a call that was made with the reply that came of it: a Call, or the Back of a Release
abbrev pub made_by : Output → Input → List Entry
made_by (output.Call call) (input.Reply reply) = record { call = call; reply = reply } ∷ []
made_by (output.Release write at) (input.Reply reply) = record { call = back_of write at; reply = reply } ∷ []
made_by output came = []

-- the calls of a run with their replies, in order, each at its own moment: of its first output, and of its
-- steps
abbrev pub calls_made : Output → List RunStep → List Entry
calls_made output [] = []
calls_made output (next ∷ later) = made_by output next.input ++ calls_made next.output later

-- an entry is of a call with its reply, at the call's own moment or a later one
pub record IsEntryOf (own entry : Entry) : Type 0 where
  pub at : ℕ
  pub later : moment own.call ≤ at
  pub is : entry ≡ record { call = at_moment at own.call; reply = own.reply }

abbrev pub AreEntriesOf : List Entry → List Entry → Type 0
AreEntriesOf [] [] = Unit {0}
AreEntriesOf (own ∷ others) (entry ∷ entries) = IsEntryOf own entry × AreEntriesOf others entries
AreEntriesOf _ _ = ⊥

-- an input that says that a dial, a send or a receive failed
abbrev pub failure_in : Input → List Input
failure_in input.DialFailed = input.DialFailed ∷ []
failure_in input.SendFailed = input.SendFailed ∷ []
failure_in input.RecvFailed = input.RecvFailed ∷ []
failure_in came = []

abbrev pub failures : List RunStep → List Input
failures run = flat_map (λ one. failure_in one.input) run

-- The bytes that were received on the link that is up are those of these frames, and then those that are
-- unread.
abbrev pub IsRead : List Frame → (unread : List ℕ) → Option Links → Type 0
IsRead frames unread told = (links : Links) (link : Link) → told ≡ Some links → links.current ≡ Some link
    → received_bytes link ≡ frames_spelling frames ++ unread

-- the frames that were read on the link that is up, after an input, and after those of a run
abbrev pub frames_with : List Frame → Input → List Frame
frames_with frames input.Dialed = []
frames_with frames (input.Frame frame) = frames ++ frame ∷ []
frames_with frames came = frames

abbrev pub frames_after : List Frame → List RunStep → List Frame
frames_after frames [] = frames
frames_after frames (one ∷ later) = frames_after (frames_with frames one.input) later

-- where a link was dialed, and where all of them were
pub record Endpoint : Type 0 where
  pub host : List ℕ
  pub port : ℕ

abbrev pub endpoint : Link → Endpoint
endpoint link = record { host = link.host; port = link.port }

abbrev pub endpoints : Links → List Endpoint
endpoints links = map endpoint (all_links links)

-- a link of the job, where an input says that one was dialed
abbrev pub dialed_in : Job → Input → List Endpoint
dialed_in job input.Dialed = record { host = job.port.host; port = job.port.port } ∷ []
dialed_in job came = []

abbrev pub dialed : Job → List RunStep → List Endpoint
dialed job run = flat_map (λ one. dialed_in job one.input) run

-- these bytes were sent on the link that is up
abbrev pub IsSent : List ℕ → Option Links → Type 0
IsSent bytes told = (links : Links) (link : Link) → told ≡ Some links → links.current ≡ Some link
    → link.sent ≡ bytes

-- The bytes sent on the link that is up, before and after an output that was done with this input: a new link
-- has none; a request that went out whole is its frame, and of one whose send failed there is a part.
abbrev pub Sends : Job → Output → Input → (before after : List ℕ) → Type 0
Sends job output.Dial input.Dialed before after = after ≡ []
Sends job (output.Send request clock) input.SentAll before after =
    after ≡ before ++ frame_spelling (request_frame job request)
Sends job (output.Send request clock) input.SendFailed before after =
    (count : ℕ) × (count < length (frame_spelling (request_frame job request)))
    × (after ≡ before ++ take count (frame_spelling (request_frame job request)))
Sends job output came before after = after ≡ before

abbrev pub AreSent : Job → Output → List RunStep → (before after : List ℕ) → Type 0
AreSent job output [] before after = after ≡ before
AreSent job output (next ∷ later) before after =
    (between : List ℕ) × Sends job output next.input before between
    × AreSent job next.output later between after
