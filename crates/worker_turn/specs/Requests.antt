-- The request whose answer a run waits for.
use Rattle.std.specs.Prelude.{◌≡◌, ◌≢◌, ℕ, List, ◌∷◌, ◌++◌, Option, Some}
use Rattle.std.specs.List.{AllByRecursion}
use Rattle.world_traits.specs.Links.{Link, Links}
use Rattle.mbap_frames.specs.declared.frame.Frame.{Frame}
use Rattle.mbap_frames.specs.Frame.{frame_spelling}
use Rattle.plant_book.specs.declared.call.Reply.{Reply}
use Rattle.plant_book.specs.declared.call.Reply.TheVariants as reply
use Rattle.inverter_worker.specs.declared.job.Job.{Job}
use Rattle.inverter_worker.specs.declared.input.Input.{Input}
use Rattle.inverter_worker.specs.declared.input.Input.TheVariants as input
use Rattle.inverter_worker.specs.declared.output.Asked.{Asked}
use Rattle.inverter_worker.specs.declared.output.Asked.TheVariants as asked
use Rattle.inverter_worker.specs.declared.output.Output.{Output}
use Rattle.inverter_worker.specs.declared.output.Output.TheVariants as output
use Rattle.inverter_worker.specs.Runs.{RunStep}
use Rattle.worker_turn.specs.Doing.{request_frame}

-- a step of a run with this input and this output
abbrev pub IsStep : Input → Output → RunStep → Type 0
IsStep came put one = (one.input ≡ came) × (one.output ≡ put)

-- the reply in which the ledger numbers a request, and its number
abbrev pub numbering : Asked → Reply
numbering (asked.Write write) = reply.Granted write
numbering (asked.Read read) = reply.ReadAs read

abbrev pub request_number : Asked → ℕ
request_number (asked.Write write) = write.number
request_number (asked.Read read) = read.number

-- a frame of another number came, and the next was waited for
abbrev pub IsPassedOver : Asked → RunStep → Type 0
IsPassedOver request one = (frame : Frame) × (frame.transaction ≢ request_number request)
    × IsStep (input.Frame frame) output.Receive one

-- A run so far waits for the answer to a request. Its last steps are: the ledger numbered the request, it was
-- sent, it went out whole, and then nothing but frames of other numbers came.
pub record Awaits (request : Asked) (sofar : List RunStep) : Type 0 where
  pub before : List RunStep
  pub numbered : RunStep
  pub sent : RunStep
  pub whole : RunStep
  pub passed : List RunStep
  pub is : sofar ≡ before ++ numbered ∷ sent ∷ whole ∷ passed
  pub is_numbered : IsStep (input.Reply (numbering request)) output.Now numbered
  pub clock : ℕ
  pub is_sent : IsStep (input.Time clock) (output.Send request clock) sent
  pub is_whole : IsStep input.SentAll output.Receive whole
  pub are_passed : AllByRecursion (IsPassedOver request) passed

-- what was sent on the link that is up ends with these bytes
abbrev pub IsSentLast : List ℕ → Option Links → Type 0
IsSentLast bytes told = (links : Links) (link : Link) → told ≡ Some links → links.current ≡ Some link
    → (earlier : List ℕ) × (link.sent ≡ earlier ++ bytes)

-- a run so far waits for the answer to a request, and its link was sent the request's whole frame last
pub record IsRequested (job : Job) (sofar : List RunStep) (told : Option Links) : Type 0 where
  pub request : Asked
  pub awaits : Awaits request sofar
  pub last : IsSentLast (frame_spelling (request_frame job request)) told
