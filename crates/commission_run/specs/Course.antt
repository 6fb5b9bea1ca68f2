-- What passes over the link of a commissioning: the requests that are sent, and where each receive stands.
use Rattle.std.specs.Prelude.{◌≡◌, ℕ, List, [], ◌∷◌, ◌++◌, length, map, IsSome, None}
use Rattle.std.specs.List.{AllByRecursion}
use Rattle.world_traits.specs.Links.{Link, Links, Receipt, all_links, answer_bytes}
use Rattle.mbap_frames.specs.declared.frame.Frame.{Frame}
use Rattle.mbap_frames.specs.Frame.{IsFrame}
use Rattle.mbap_frames.specs.Stream.{IsUnfinished, IsStream, frames_spelling}
use Rattle.commissioning.specs.declared.target.Target.{Target}
use Rattle.commissioning.specs.Asking.{asked}
use Rattle.commissioning.specs.Runs.{standing_after, exchanges, requests}
use Rattle.commission_run.specs.declared.job.Job.{Job}

-- what is commissioned
abbrev pub target_of : Job → Target
target_of job = record { unit = job.unit; port = job.port; rules = job.rules }

-- links with one more behind them, which is over
abbrev pub with_past_link : Link → Links → Links
with_past_link link links = record { past = all_links links ++ link ∷ []; current = None }

-- these frames stand first in the bytes
abbrev pub AreFirst : List Frame → List ℕ → Type 0
AreFirst frames bytes =
    AllByRecursion IsFrame frames × (rest : List ℕ) × (bytes ≡ frames_spelling frames ++ rest)

-- the requests to which a reply was taken, where these frames were taken: all but the one that is asked still
abbrev pub answered : Target → List Frame → List Frame
answered target frames = map (λ exchange. exchange.request) (exchanges target frames)

-- A request is asked where these bytes have come: behind the whole frames among them stands only a part of one, and
-- so many bytes were sent as the requests have up to the one that these frames lead to, whole.
pub record AwaitsReply (target : Target) (came : List ℕ) (sent_before : ℕ) : Type 0 where
  pub frames : List Frame
  pub rest : List ℕ
  pub stream : IsStream came frames rest
  pub unfinished : IsUnfinished rest
  pub asks : IsSome (asked (standing_after target frames))
  pub sent : sent_before ≡ length (frames_spelling (requests target frames))

-- Each receive stands behind a whole request whose reply hasn't come. These bytes came before the first of them.
abbrev pub EachAwaits : Target → List ℕ → List Receipt → Type 0
EachAwaits target came [] = Unit {0}
EachAwaits target came (receipt ∷ receipts) =
    AwaitsReply target came receipt.sent_before
    × EachAwaits target (came ++ answer_bytes receipt.answer) receipts
