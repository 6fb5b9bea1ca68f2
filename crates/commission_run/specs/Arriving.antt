-- What comes over a link, and what is done with a frame that came. No promise to a caller names this.
use Rattle.std.specs.Prelude.{◌≡◌, ℕ, List, [], ◌∷◌, Option, Some, None, Result, Ok, Err, IsSome, option_map}
use Rattle.std.specs.Io.KnownBytes.{Appends}
use Rattle.world_traits.specs.Links.{Link, Links, IsCutShort, with_bytes}
use Rattle.mbap_frames.specs.declared.frame.Frame.{Frame}
use Rattle.mbap_frames.specs.Frame.{frame_spelling}
use Rattle.mbap_frames.specs.Stream.{frames_spelling}
use Rattle.frame_inbox.specs.declared.inbox.NoFrame.{NoFrame}
use Rattle.frame_inbox.specs.declared.inbox.NoFrame.TheVariants as none
use Rattle.frame_inbox.specs.Waiting.{IsAdvance}
use Rattle.commissioning.specs.declared.commission.Took.{Took}
use Rattle.commissioning.specs.declared.found.Record702.{Record702}
use Rattle.commissioning.specs.Stage.{Standing, found_at}
use Rattle.commissioning.specs.Taking.{taken, answer}
use Rattle.commissioning.specs.Runs.{request_by}
use Rattle.commission_run.specs.declared.stop.Stop.{Stop}
use Rattle.commission_run.specs.declared.stop.Stop.TheVariants.{WriteFailed, Refused}
use Rattle.commission_run.specs.declared.stop.Refusal.{Refusal}
use Rattle.commission_run.specs.declared.stop.Refusal.TheVariants as by
use Rattle.commission_run.specs.Lines.{found_text}
use Rattle.stream_io.specs.Streams.{AppendsFront}

-- the links with this one up
abbrev pub with_current : Link → Links → Links
with_current link links = record links { current = Some link }

-- how a commissioning says that no frame came
abbrev pub refusal_of : NoFrame → Refusal
refusal_of none.Quiet = by.Quiet
refusal_of none.Closed = by.Closed
refusal_of none.RecvFailed = by.Recv
refusal_of (none.BadFrame fault) = by.BadFrame fault

-- no frame came, and so the commissioning is stopped
pub record StopsWait (stop : Stop) (held after : List ℕ) (old new : Option Links) : Type 0 where
  pub why : NoFrame
  pub says : stop ≡ Refused (refusal_of why)
  pub advance : IsAdvance (Err why) held after old new

-- a request was cut short by a send that failed
abbrev pub CutsShort : Stop → Option Frame → (old new : Option Links) → Type 0
CutsShort (Refused by.Send) (Some request) old new = IsCutShort (frame_spelling request) old new
CutsShort _ request old new = ⊥

-- the line of the points that were found just now
abbrev pub gained_text : (had found : Option Record702) → List ℕ
gained_text None found = found_text found
gained_text (Some had) found = []

-- What became of the record and of the output by a frame that came to a standing.
abbrev pub IsHandled : Result (Unit {0}) Stop → Standing → Frame → (old new : Option Links)
    → (text : List ℕ) → (before after : Option (List ℕ)) → Type 0
IsHandled (Ok _) standing frame old new text before after =
    (took : Took) × (answer standing frame ≡ Ok took)
    × Appends before after text
    × (new ≡ option_map (with_bytes (frames_spelling (request_by standing frame))) old)
IsHandled (Err WriteFailed) standing frame old new text before after =
    IsSome (found_at (taken standing frame).stage) × (found_at standing.stage ≡ None)
    × AppendsFront before after text × (new ≡ old)
IsHandled (Err (Refused (by.Commission fault))) standing frame old new text before after =
    (answer standing frame ≡ Err fault) × Appends before after text × (new ≡ old)
IsHandled (Err (Refused by.Send)) standing frame old new text before after =
    (request : Frame) × (request_by standing frame ≡ request ∷ [])
    × Appends before after text × IsCutShort (frame_spelling request) old new
IsHandled (Err _) standing frame old new text before after = ⊥
