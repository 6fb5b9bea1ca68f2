-- One piece after another.
use Rattle.std.proofs.Common.{◌≡◌, ℕ, ◌<◌, List, [], ◌∷◌, ◌++◌, length, Option, Some, None, Ok, Err, refl, sym, ap, subst, ◌∙◌, append_assoc, append-nil}
use Rattle.std.specs.Option.{option_map}
use Rattle.std.specs.List.{AllByRecursion, concat}
use Rattle.world_traits.specs.Links.{Bytes, Links, with_receipt}
use Rattle.mbap_frames.specs.declared.frame.Frame.{Frame}
use Rattle.frame_inbox.specs.declared.inbox.NoFrame.{NoFrame}
use Rattle.frame_inbox.specs.declared.inbox.NoFrame.TheVariants as none
use Rattle.mbap_frames.specs.Stream.{IsUnfinished}
use Rattle.frame_inbox.specs.Waiting.{with_pieces, GivesNone, Receives, EndsWait, IsWait, IsAdvance}

-- so far some pieces came
pub record IsWaiting (unread rest : List ℕ) (old new : Option Links) : Type 0 where
  pub pieces : List (List ℕ)
  pub receives : Receives pieces old new
  pub bytes : rest ≡ unread ++ concat pieces

all_more : (pieces : List (List ℕ)) (piece : List ℕ) → AllByRecursion (λ piece. 0 < length piece) pieces → 0 < length piece
    → AllByRecursion (λ piece. 0 < length piece) (pieces ++ piece ∷ [])
all_more [] piece all some = (some, tt)
all_more (first ∷ pieces) piece all some = (all.0, all_more pieces piece all.1 some)

concat_more : (pieces : List (List ℕ)) (piece : List ℕ) → concat (pieces ++ piece ∷ []) ≡ concat pieces ++ piece
concat_more [] piece = append-nil piece
concat_more (first ∷ pieces) piece =
    ap (λ (t : List ℕ). first ++ t) (concat_more pieces piece) ∙ sym (append_assoc first (concat pieces) piece)

pieces_more : (pieces : List (List ℕ)) (piece : List ℕ) (links : Links)
    → with_pieces (pieces ++ piece ∷ []) links ≡ with_receipt (Bytes piece) (with_pieces pieces links)
pieces_more [] piece links = refl
pieces_more (first ∷ pieces) piece links = pieces_more pieces piece (with_receipt (Bytes first) links)

told_more : (pieces : List (List ℕ)) (piece : List ℕ) (old : Option Links)
    → option_map (with_receipt (Bytes piece)) (option_map (with_pieces pieces) old)
    ≡ option_map (with_pieces (pieces ++ piece ∷ [])) old
told_more pieces piece None = refl
told_more pieces piece (Some links) = ap (λ (l : Links). Some l) (sym (pieces_more pieces piece links))

same : (old : Option Links) → old ≡ option_map (with_pieces []) old
same None = refl
same (Some links) = refl

-- at first none came
pub none_yet : (unread : List ℕ) (old : Option Links) → IsWaiting unread unread old old
none_yet unread old =
    record { pieces = []; receives = record { some = tt; links = same old }; bytes = sym (append-nil unread) }

-- one more came
pub one_more : (unread rest after : List ℕ) (old new next : Option Links) → IsWaiting unread rest old new
    → IsAdvance (Ok None) rest after new next → IsWaiting unread after old next
one_more unread rest after old new next waiting came =
    let pieces = waiting.pieces in
    record {
      pieces = pieces ++ came.1 ∷ [];
      receives = record {
        some = all_more pieces came.1 waiting.receives.some came.2;
        links = came.4 ∙ ap (λ (l : Option Links). option_map (with_receipt (Bytes came.1)) l) waiting.receives.links
            ∙ told_more pieces came.1 old;
      };
      bytes = came.3 ∙ ap (λ (t : List ℕ). t ++ came.1) waiting.bytes ∙ append_assoc unread (concat pieces) came.1
          ∙ ap (λ (t : List ℕ). unread ++ t) (sym (concat_more pieces came.1));
    }

-- a frame stands first then
pub by_frame : (frame : Frame) (unread rest after : List ℕ) (old new next : Option Links) → IsWaiting unread rest old new
    → IsAdvance (Ok (Some frame)) rest after new next → IsWait (Ok frame) unread after old next
by_frame frame unread rest after old new next waiting came = record {
  pieces = waiting.pieces;
  between = new;
  receives = waiting.receives;
  ends = (came.0, sym waiting.bytes ∙ came.1, came.2);
}

-- or none comes
pub by_none : (why : NoFrame) (unread rest after : List ℕ) (old new next : Option Links) → IsWaiting unread rest old new
    → IsAdvance (Err why) rest after new next → IsWait (Err why) unread after old next
by_none why unread rest after old new next waiting came =
    let P : List ℕ → Type 0 = λ bytes. EndsWait (Err why) bytes after new next in
    record {
      pieces = waiting.pieces;
      between = new;
      receives = waiting.receives;
      ends = subst P waiting.bytes came;
    }

-- a receive gave no bytes behind less than a frame
pub by_receive : (why : NoFrame) (unread rest : List ℕ) (old new : Option Links) → IsUnfinished unread
    → GivesNone why old new → rest ≡ unread → IsAdvance (Err why) unread rest old new
by_receive none.Quiet unread rest old new less gives stay = (less, gives, stay)
by_receive none.Closed unread rest old new less gives stay = (less, gives, stay)
by_receive none.RecvFailed unread rest old new less gives stay = (less, gives, stay)
by_receive (none.BadFrame fault) unread rest old new less gives stay = absurd gives
