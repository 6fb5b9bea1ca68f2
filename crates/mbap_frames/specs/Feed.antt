-- One call of `feed`, and any list of them.
use Rattle.std.specs.Prelude.{◌≡◌, ℕ, ◌≤◌, List, [], ◌∷◌, ◌++◌, length, take, drop}
use Rattle.std.specs.List.{flat_map}
use Rattle.mbap_frames.specs.declared.frame.Frame.{Frame}
use Rattle.mbap_frames.specs.declared.frame.FrameFault.{FrameFault}
use Rattle.mbap_frames.specs.declared.frames.Got.{Got}
use Rattle.mbap_frames.specs.declared.frames.Got.TheVariants.{More, One, Bad}
use Rattle.mbap_frames.specs.declared.frames.Fed.{Fed}
use Rattle.mbap_frames.specs.Frame.{IsFrame}
use Rattle.mbap_frames.specs.Stream.{IsUnfinished, HasFault, fault_end, frames_spelling}

-- the frame that an answer hands out, if it does
abbrev pub frames_of : Got → List Frame
frames_of More = []
frames_of (One frame) = frame ∷ []
frames_of (Bad fault) = []

-- What an answer leaves: the bytes that are kept of a frame, and those of the piece that weren't used. More
-- has used all. Behind a whole frame nothing is kept. A fault has used the bytes that show it, and no more.
abbrev pub Leaves : Got → List ℕ → List ℕ → Type 0
Leaves More kept unused = IsUnfinished kept × (unused ≡ [])
Leaves (One frame) kept unused = IsFrame frame × (kept ≡ [])
Leaves (Bad fault) kept unused = HasFault kept fault × (length kept ≡ fault_end fault)

-- One call: what was kept before, the piece, the answer, and what is kept then. The frame that is handed out,
-- what is kept and what wasn't used are what was kept and the piece: nothing is lost or made.
pub record IsFed (before piece : List ℕ) (fed : Fed) (after : List ℕ) : Type 0 where
  pub within : fed.used ≤ length piece
  pub stream : frames_spelling (frames_of fed.got) ++ after ++ drop fed.used piece ≡ before ++ piece
  pub leaves : Leaves fed.got after (drop fed.used piece)

-- a call that was made: the piece, and what it came to
pub record Feeding : Type 0 where
  pub piece : List ℕ
  pub fed : Fed

-- the bytes that it used
abbrev pub used_bytes : Feeding → List ℕ
used_bytes feeding = take feeding.fed.used feeding.piece

-- it answered this fault
abbrev pub AnswersFault : FrameFault → Feeding → Type 0
AnswersFault fault feeding = feeding.fed.got ≡ Bad fault

-- the stream that calls have used, and the frames that they handed out
abbrev pub stream_of : List Feeding → List ℕ
stream_of feedings = flat_map used_bytes feedings

abbrev pub frames_among : List Feeding → List Frame
frames_among feedings = flat_map (λ feeding. frames_of feeding.fed.got) feedings

-- Calls, one after the other, from what was kept before the first to what is kept after the last.
abbrev pub AreFeedings : List ℕ → List Feeding → List ℕ → Type 0
AreFeedings before [] after = before ≡ after
AreFeedings before (feeding ∷ feedings) after =
    (between : List ℕ) × IsFed before feeding.piece feeding.fed between × AreFeedings between feedings after
