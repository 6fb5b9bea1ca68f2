-- A whole commissioning: what any list of frames that comes makes of it, and which requests it asks meanwhile.
use Rattle.std.specs.Prelude.{◌≡◌, ℕ, ◌+◌, List, [], ◌∷◌, ◌++◌, map, fold, is_some, option_to_list, if◌then◌else◌}
use Rattle.mbap_frames.specs.declared.frame.Frame.{Frame}
use Rattle.commissioning.specs.declared.target.Target.{Target}
use Rattle.commissioning.specs.Stage.{Standing}
use Rattle.commissioning.specs.Asking.{start, asked}
use Rattle.commissioning.specs.Taking.{is_skipped, taken}

-- a commissioning after one frame more; a frame that comes while nothing is asked isn't taken
abbrev pub after : Standing → Frame → Standing
after standing frame = if is_some (asked standing) then taken standing frame else standing

-- a commissioning that has taken these frames
abbrev pub standing_after : Target → List Frame → Standing
standing_after target frames = fold after (start target) frames

-- a request, and what was taken as the reply to it
pub record Exchange : Type 0 where
  pub request : Frame
  pub reply : Frame

-- the exchange that a frame ends: that of the request which is asked, unless the frame is skipped
abbrev pub exchange_by : Standing → Frame → List Exchange
exchange_by standing frame =
    if is_skipped standing frame then []
    else map (λ request. record { request = request; reply = frame }) (option_to_list (asked standing))

abbrev pub exchanges_from : Standing → List Frame → List Exchange
exchanges_from standing [] = []
exchanges_from standing (frame ∷ frames) = exchange_by standing frame ++ exchanges_from (after standing frame) frames

-- the exchanges of a commissioning that has taken these frames, in their order
abbrev pub exchanges : Target → List Frame → List Exchange
exchanges target frames = exchanges_from (start target) frames

-- the requests that it has asked, in their order: those to which a reply was taken, and the one that is asked
abbrev pub requests : Target → List Frame → List Frame
requests target frames =
    map (λ exchange. exchange.request) (exchanges target frames)
    ++ option_to_list (asked (standing_after target frames))

-- the request that a frame leads to: none where it is skipped, nor at the end
abbrev pub request_by : Standing → Frame → List Frame
request_by standing frame = if is_skipped standing frame then [] else option_to_list (asked (taken standing frame))

-- requests to the unit of the port, with the numbers from one on
abbrev pub AreNumbered : Target → ℕ → List Frame → Type 0
AreNumbered target number [] = Unit {0}
AreNumbered target number (request ∷ requests) =
    (request.transaction ≡ number) × (request.unit ≡ target.port.unit) × AreNumbered target (number + 1) requests
