-- A commissioning over a link while requests are asked. No promise to a caller names this.
use Rattle.std.specs.Prelude.{◌≡◌, ℕ, List, [], ◌++◌, map, Ok}
use Rattle.std.specs.List.{AllByRecursion}
use Rattle.world_traits.specs.Links.{Bytes, Link, received_bytes}
use Rattle.mbap_frames.specs.declared.frame.Frame.{Frame}
use Rattle.mbap_frames.specs.Frame.{IsFrame}
use Rattle.mbap_frames.specs.Stream.{frames_spelling}
use Rattle.commissioning.specs.declared.commission.Took.TheVariants.{Taken}
use Rattle.commissioning.specs.declared.target.Target.{Target}
use Rattle.commissioning.specs.Stage.{Standing}
use Rattle.commissioning.specs.Taking.{outcome}
use Rattle.commissioning.specs.Runs.{standing_after, requests}
use Rattle.commission_run.specs.Course.{EachAwaits}

-- The frames were taken, the requests that they lead to were sent whole, and all that came is the frames and what
-- is held.
pub record IsGoing (target : Target) (standing : Standing) (held : List ℕ) (frames : List Frame) (link : Link)
    : Type 0 where
  pub host : link.host ≡ target.port.host
  pub port : link.port ≡ target.port.port
  pub at : standing ≡ standing_after target frames
  pub unrefused : outcome standing.stage ≡ Ok Taken
  pub each : AllByRecursion IsFrame frames
  pub came : received_bytes link ≡ frames_spelling frames ++ held
  pub sent : link.sent ≡ frames_spelling (requests target frames)
  pub receives : EachAwaits target [] link.receipts
  pub pieces : List (List ℕ)
  pub answers : map (λ receipt. receipt.answer) link.receipts ≡ map Bytes pieces
