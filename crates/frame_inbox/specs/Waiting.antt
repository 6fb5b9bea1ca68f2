-- A wait for the next frame of a link.
use Rattle.std.specs.Prelude.{◌≡◌, ℕ, ◌<◌, List, [], ◌∷◌, ◌++◌, length, Option, Some, None, Result, Ok, Err, option_map}
use Rattle.std.specs.List.{AllByRecursion, concat}
use Rattle.world_traits.specs.Causes.{Rose}
use Rattle.world_traits.specs.Links.{Bytes, Quiet, Closed, Links, with_failure, with_receipt}
use Rattle.mbap_frames.specs.declared.frame.Frame.{Frame}
use Rattle.mbap_frames.specs.Frame.{IsFrame, frame_spelling}
use Rattle.mbap_frames.specs.Stream.{IsUnfinished, HasFault}
use Rattle.frame_inbox.specs.declared.inbox.NoFrame.{NoFrame}
use Rattle.frame_inbox.specs.declared.inbox.NoFrame.TheVariants as none

-- the links with these pieces received, one after another, on the one that is up
abbrev pub with_pieces : List (List ℕ) → Links → Links
with_pieces [] links = links
with_pieces (piece ∷ pieces) links = with_pieces pieces (with_receipt (Bytes piece) links)

-- pieces of one byte or more were received, one after another, and nothing else was done with the link
pub record Receives (pieces : List (List ℕ)) (old new : Option Links) : Type 0 where
  pub some : AllByRecursion (λ piece. 0 < length piece) pieces
  pub links : new ≡ option_map (with_pieces pieces) old

-- a receive that gave no bytes was the last of the wait; at bytes that are no frame there was none
abbrev pub EndsLink : NoFrame → (old new : Option Links) → Type 0
EndsLink none.Quiet old new = new ≡ option_map (with_receipt Quiet) old
EndsLink none.Closed old new = new ≡ option_map (with_receipt Closed) old
EndsLink none.RecvFailed old new = new ≡ option_map with_failure old
EndsLink (none.BadFrame fault) old new = new ≡ old

-- what stands first in the bytes where no frame does: a fault, or less than a frame, which lacks the next
-- receive
abbrev pub Lacks : NoFrame → List ℕ → Type 0
Lacks (none.BadFrame fault) bytes = HasFault bytes fault
Lacks _ bytes = IsUnfinished bytes

-- What came of these bytes: the frame that stands first, with the others unread; or none, and all stay
-- unread.
abbrev pub EndsWait : Result Frame NoFrame → (bytes unread : List ℕ) → (old new : Option Links) → Type 0
EndsWait (Ok frame) bytes unread old new =
    IsFrame frame × (bytes ≡ frame_spelling frame ++ unread) × (new ≡ old)
EndsWait (Err why) bytes unread old new = Lacks why bytes × EndsLink why old new × (unread ≡ bytes)

-- A wait: pieces were received, and this came of the bytes that were unread before with theirs behind them.
pub record IsWait (result : Result Frame NoFrame) (unread rest : List ℕ) (old new : Option Links)
    : Type 0 where
  pub pieces : List (List ℕ)
  pub between : Option Links
  pub receives : Receives pieces old between
  pub ends : EndsWait result (unread ++ concat pieces) rest between new

-- a receive failed where the count of faults rose, and else the count stands
abbrev pub Counts : {T : Type 0} → Result T NoFrame → (old new : ℕ) → Type 0
Counts (Err none.RecvFailed) old new = Rose old new
Counts _ old new = new ≡ old

-- A receive gave no bytes. No promise to a caller names this.
abbrev pub GivesNone : NoFrame → (old new : Option Links) → Type 0
GivesNone (none.BadFrame fault) old new = ⊥
GivesNone why old new = EndsLink why old new

-- What became of the unread bytes and of the record: a frame was taken from their front; a piece came behind
-- what is less than a frame; or no frame comes.
abbrev pub IsAdvance : Result (Option Frame) NoFrame → (unread rest : List ℕ) → (old new : Option Links)
    → Type 0
IsAdvance (Ok (Some frame)) unread rest old new =
    IsFrame frame × (unread ≡ frame_spelling frame ++ rest) × (new ≡ old)
IsAdvance (Ok None) unread rest old new =
    IsUnfinished unread × (piece : List ℕ) × (0 < length piece) × (rest ≡ unread ++ piece)
    × (new ≡ option_map (with_receipt (Bytes piece)) old)
IsAdvance (Err why) unread rest old new = Lacks why unread × EndsLink why old new × (rest ≡ unread)
