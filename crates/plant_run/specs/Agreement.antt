-- What a whole run of a worker has to do with the links of its dialer, link by link, and with the book.
use Rattle.std.specs.Prelude.{◌≡◌, ℕ, ◌+◌, ◌-◌, ◌^◌, ◌≤◌, List, [], ◌∷◌, ◌++◌, Option, Some, length, map, min}
use Rattle.std.specs.List.{AllByRecursion, concat, flat_map}
use Rattle.world_traits.specs.Links.{Answer, Bytes, Quiet, Closed, Failed, Link, Links, all_links}
use Rattle.mbap_frames.specs.declared.frame.Frame.{Frame}
use Rattle.mbap_frames.specs.declared.frame.FrameFault.{FrameFault}
use Rattle.mbap_frames.specs.Frame.{IsFrame}
use Rattle.mbap_frames.specs.Stream.{IsUnfinished, HasFault, frames_spelling}
use Rattle.inverter_worker.specs.declared.job.Job.{Job}
use Rattle.inverter_worker.specs.declared.input.Input.{Input}
use Rattle.inverter_worker.specs.declared.input.Input.TheVariants as input
use Rattle.inverter_worker.specs.declared.output.Output.{Output}
use Rattle.inverter_worker.specs.declared.output.Output.TheVariants as output
use Rattle.inverter_worker.specs.Runs.{RunStep, IsInTime, log}
use Rattle.plant_book.specs.declared.call.Call.TheVariants as call
use Rattle.plant_book.specs.Answered.{IsBook}
use Rattle.plant_book.specs.Book.{BookRecord}
use Rattle.worker_turn.specs.Doing.{World, AreDone}
use Rattle.worker_turn.specs.Agreeing.{AreEntriesOf, calls_made, failures}
use Rattle.worker_turn.specs.Requests.{IsRequested}
use Rattle.worker_turn.specs.Sights.{IsSeen}
use Rattle.worker_turn.specs.Turning.{pending}
use Rattle.plant_run.specs.Own.{entries_of}
use Rattle.plant_run.specs.Works.{IsGoalAfter, AreTold}
use Rattle.plant_run.specs.Acts.{Act, acts, before_links, on_links, IsNoTransfer, attempts, HaveSent, AreCounted, AreAfterWhole}
use Rattle.plant_run.specs.Requests.{RequestsAgree}

-- what came of a wait for a frame
abbrev pub arrival_in : Output → Input → List Input
arrival_in output.Receive came = came ∷ []
arrival_in output came = []

-- what came of all waits for a frame, in order
abbrev pub arrivals : List Act → List Input
arrivals done = flat_map (λ act. arrival_in act.output act.came) done

-- the inputs of these frames
abbrev pub frame_inputs : List Frame → List Input
frame_inputs frames = map (λ frame. input.Frame frame) frames

-- what the receives of a link answered, in order
abbrev pub answers : Link → List Answer
answers link = map (λ receipt. receipt.answer) link.receipts

-- the answers that gave these pieces of bytes
abbrev pub piece_answers : List (List ℕ) → List Answer
piece_answers pieces = map Bytes pieces

-- How the waits of a link end, with the answers that gave no bytes and the bytes that were never handed out:
-- all gave frames; or what came is no frame, and a fault stands first in those bytes; or a receive gave none
-- while they were less than a frame. Such a wait is the last.
abbrev pub EndsWith : List Input → List Answer → (unread : List ℕ) → Type 0
EndsWith [] [] unread = Unit {0}
EndsWith (input.BadFrame ∷ []) [] unread = (fault : FrameFault) × HasFault unread fault
EndsWith (input.Quiet ∷ []) (Quiet ∷ []) unread = IsUnfinished unread
EndsWith (input.Closed ∷ []) (Closed ∷ []) unread = IsUnfinished unread
EndsWith (input.RecvFailed ∷ []) (Failed ∷ []) unread = IsUnfinished unread
EndsWith _ _ unread = ⊥

-- A link agrees with the acts on it. It was dialed where the job says, and the bytes sent on it are the
-- frames of the requests. The waits gave frames, and then such an end; the receives answered pieces of bytes,
-- and then the same end. The bytes of the pieces are those of the frames, in order, and then those never
-- handed out. Each receive counts the bytes that its acts had sent before it.
pub record AgreesWith (job : Job) (done : List Act) (link : Link) : Type 0 where
  pub host : link.host ≡ job.port.host
  pub port : link.port ≡ job.port.port
  pub sent : HaveSent (attempts job done) link.sent
  pub frames : List Frame
  pub end : List Input
  pub waits : arrivals done ≡ frame_inputs frames ++ end
  pub each : AllByRecursion IsFrame frames
  pub pieces : List (List ℕ)
  pub silence : List Answer
  pub receives : answers link ≡ piece_answers pieces ++ silence
  pub unread : List ℕ
  pub bytes : concat pieces ≡ frames_spelling frames ++ unread
  pub ends : EndsWith end silence unread
  pub counted : AreCounted job [] done link.receipts

-- each link agrees with the acts on it, and there are as many links as parts of the acts
abbrev pub AgreesEach : Job → List (List Act) → List Link → Type 0
AgreesEach job [] [] = Unit {0}
AgreesEach job (done ∷ others) (link ∷ links) = AgreesWith job done link × AgreesEach job others links
AgreesEach job _ _ = ⊥

-- The links now are those before, and behind them one for each dial that worked, which agrees with the acts
-- on it. Before the first of these nothing was sent or received.
pub record NewLinksAgree (job : Job) (done : List Act) (before : Links) (links_now : Option Links)
    : Type 0 where
  pub after : Links
  pub told : links_now ≡ Some after
  pub nothing_before : AllByRecursion (λ act. IsNoTransfer act.output) (before_links done)
  pub made : List Link
  pub all : all_links after ≡ all_links before ++ made
  pub agree : AgreesEach job (on_links done) made

-- a run agrees with the links of its dialer, where these are told
abbrev pub LinksAgree : Job → List RunStep → (links links_now : Option Links) → Type 0
LinksAgree job run links links_now = (before : Links) → links ≡ Some before
    → NewLinksAgree job (acts output.Nothing run) before links_now

-- Wherever a run came to a receive, its last request had gone out whole, and what was sent on the link that was up ended
-- with the frame of that request.
abbrev pub SendsWhole : Job → List RunStep → (old new : World) → Type 0
SendsWhole job run old new = (sofar later : List RunStep) → run ≡ sofar ++ later
    → pending output.Nothing sofar ≡ output.Receive
    → (here : World) × AreDone job output.Nothing sofar old here × AreDone job output.Receive later here new
    × IsRequested job sofar here.links

-- Each Saw of a run has a frame that shows it, as the first that answered the read numbered last.
abbrev pub SeesWhatCame : Job → List RunStep → Type 0
SeesWhatCame job run = (sofar later : List RunStep) (at inverter number raw : ℕ) → run ≡ sofar ++ later
    → pending output.Nothing sofar ≡ output.Call (call.Saw at inverter number raw)
    → IsSeen job sofar at inverter number raw

-- each receive of these links stands behind a whole frame
abbrev pub EachAfterWhole : Job → List (List Act) → List Link → Type 0
EachAfterWhole job [] [] = Unit {0}
EachAfterWhole job (done ∷ others) (link ∷ links) =
    AreAfterWhole job link.sent [] done link.receipts × EachAfterWhole job others links
EachAfterWhole job _ _ = ⊥

-- Where links are told, the bytes sent on each new link before each of its receives end with the whole frame of the
-- run's last request that was to be sent before it.
abbrev pub ReceivesFollow : Job → List RunStep → (links links_now : Option Links) → Type 0
ReceivesFollow job run links links_now = (before after : Links) → links ≡ Some before → links_now ≡ Some after
    → (made : List Link) → all_links after ≡ all_links before ++ made
    → EachAfterWhole job (on_links (acts output.Nothing run)) made

-- What a worker's run, from its first turn on, has to do with the book and with its dialer. Its calls with their replies
-- are the book's entries of its inverter. Its dialer's new links agree with it, one by one. Its writes were sent in their
-- windows, and each request was whole before its reply was waited for. What failed was counted. Each goal is that of the
-- book after some of its first entries, and where one came to a full book one was full. Each Saw has its frame. Each
-- receive stands behind a whole frame. Where the book's replies are right, what was sent on each link are the requests
-- that the ledger numbered there.
pub record Agrees (job : Job) (book : BookRecord) (full : Type 0) (run : List RunStep) (old new : World) : Type 0 where
  pub calls : AreEntriesOf (calls_made output.Nothing run) (entries_of job.inverter book.entries)
  pub links : LinksAgree job run old.links new.links
  pub in_window : AllByRecursion (IsInTime job) (log run)
  pub requests : SendsWhole job run old new
  pub counted : min (old.faults + length (failures run)) (2 ^ 64 - 1) ≤ new.faults
  pub goals : AreTold (IsGoalAfter book) full job.inverter output.Nothing run 0
  pub sights : SeesWhatCame job run
  pub receives : ReceivesFollow job run old.links new.links
  pub numbered : IsBook book → RequestsAgree full (entries_of job.inverter book.entries) run
