-- What one frame makes of a whole commissioning.
use Rattle.std.proofs.Common.{◌≡◌, ℕ, ◌+◌, Bool, true, false, cond, List, [], ◌∷◌, ◌++◌, map, fold, Option, Some, None, refl, sym, ◌∙◌, ap, append_assoc}
use Rattle.std.specs.Prelude.{IsSome, is_some, option_map, option_to_list}
use Rattle.std.proofs.lemmas.List.{append-nil, map-append}
use Rattle.std.proofs.lemmas.List.Sums.{fold-append}
use Rattle.mbap_frames.specs.declared.frame.Frame.{Frame}
use Rattle.commissioning.specs.declared.target.Target.{Target}
use Rattle.commissioning.specs.Stage.{Standing}
use Rattle.commissioning.specs.Asking.{asked_pdu, asked, request_frame, start}
use Rattle.commissioning.specs.Replies.{stage_after}
use Rattle.commissioning.specs.Taking.{is_skipped, reply_in, taken}
use Rattle.commissioning.specs.Runs.{Exchange, after, standing_after, exchange_by, exchanges_from, exchanges, requests, request_by, AreNumbered}

-- the exchange that a reply ends
abbrev pub exchanged : Standing → List ℕ → Frame → Exchange
exchanged standing pdu frame = record { request = request_frame standing.target standing.number pdu; reply = frame }

-- a commissioning after a reply
abbrev pub replied : Standing → Frame → Standing
replied standing frame = record {
  target = standing.target;
  stage = stage_after standing.target standing.stage (reply_in standing.target standing.number frame);
  number = standing.number + 1;
  skipped = 0;
}

-- nothing is asked; the frame is skipped; or it is a reply
pub data Moves (standing : Standing) (frame : Frame) : Type 0 where
  over : asked standing ≡ None → after standing frame ≡ standing → exchange_by standing frame ≡ [] → Moves standing frame
  skips : (after standing frame ≡ record standing { skipped = standing.skipped + 1 }) → exchange_by standing frame ≡ [] → request_by standing frame ≡ []
      → Moves standing frame
  replies : (pdu : List ℕ) → asked_pdu standing.target standing.stage ≡ Some pdu → after standing frame ≡ replied standing frame
      → exchange_by standing frame ≡ exchanged standing pdu frame ∷ []
      → request_by standing frame ≡ option_to_list (asked (replied standing frame)) → Moves standing frame

cond_same : {A : Type 0} (b : Bool) (x y : A) → y ≡ x → cond b x y ≡ x
cond_same true x y e = refl
cond_same false x y e = e

-- the frame is a reply to this request
pub record IsReplied (standing : Standing) (frame : Frame) (pdu : List ℕ) : Type 0 where
  pub goes : after standing frame ≡ replied standing frame
  pub ends : exchange_by standing frame ≡ exchanged standing pdu frame ∷ []

pub replied_at : (standing : Standing) (frame : Frame) (pdu : List ℕ) → asked_pdu standing.target standing.stage ≡ Some pdu
    → is_skipped standing frame ≡ false → IsReplied standing frame pdu
replied_at standing frame pdu asks skip =
    let some : asked standing ≡ Some (request_frame standing.target standing.number pdu) = ap (option_map (request_frame standing.target standing.number)) asks in
    record {
      goes = ap (λ (o : Option Frame). cond (is_some o) (taken standing frame) standing) some
          ∙ ap (λ (b : Bool). cond b (record standing { skipped = standing.skipped + 1 }) (replied standing frame)) skip;
      ends = ap (λ (b : Bool). cond b [] (map (λ (r : Frame). record { request = r; reply = frame }) (option_to_list (asked standing)))) skip
          ∙ ap (λ (o : Option Frame). map (λ (r : Frame). record { request = r; reply = frame }) (option_to_list o)) some;
    }

moves_at : (standing : Standing) (frame : Frame) (pdu : Option (List ℕ)) (skip : Bool) → asked_pdu standing.target standing.stage ≡ pdu
    → is_skipped standing frame ≡ skip → Moves standing frame
moves_at standing frame None skip asks skips' =
    let none : asked standing ≡ None = ap (option_map (request_frame standing.target standing.number)) asks in
    let stays : after standing frame ≡ standing = ap (λ (o : Option Frame). cond (is_some o) (taken standing frame) standing) none in
    over none stays
    (cond_same (is_skipped standing frame) [] _ (ap (λ (o : Option Frame). map (λ (r : Frame). record { request = r; reply = frame }) (option_to_list o)) none))
moves_at standing frame (Some pdu) true asks skip =
    let some : asked standing ≡ Some (request_frame standing.target standing.number pdu) = ap (option_map (request_frame standing.target standing.number)) asks in
    skips
    (ap (λ (o : Option Frame). cond (is_some o) (taken standing frame) standing) some
    ∙ ap (λ (b : Bool). cond b (record standing { skipped = standing.skipped + 1 }) (replied standing frame)) skip)
    (ap (λ (b : Bool). cond b [] (map (λ (r : Frame). record { request = r; reply = frame }) (option_to_list (asked standing)))) skip)
    (ap (λ (b : Bool). cond b [] (option_to_list (asked (taken standing frame)))) skip)
moves_at standing frame (Some pdu) false asks skip =
    let is = replied_at standing frame pdu asks skip in
    replies pdu asks is.goes is.ends
    (ap (λ (b : Bool). cond b [] (option_to_list (asked (taken standing frame)))) skip
    ∙ ap (λ (b : Bool). option_to_list (asked (cond b (record standing { skipped = standing.skipped + 1 }) (replied standing frame)))) skip)

pub moves : (standing : Standing) (frame : Frame) → Moves standing frame
moves standing frame = moves_at standing frame (asked_pdu standing.target standing.stage) (is_skipped standing frame) refl refl

-- the exchanges with one frame more
pub exchanges_from-more : (standing : Standing) (frames : List Frame) (frame : Frame)
    → exchanges_from standing (frames ++ frame ∷ []) ≡ exchanges_from standing frames ++ exchange_by (fold after standing frames) frame
exchanges_from-more standing [] frame = append-nil (exchange_by standing frame)
exchanges_from-more standing (f ∷ frames) frame =
    ap (λ (xs : List Exchange). exchange_by standing f ++ xs) (exchanges_from-more (after standing f) frames frame)
    ∙ sym (append_assoc (exchange_by standing f) (exchanges_from (after standing f) frames) (exchange_by (fold after (after standing f) frames) frame))

pub standing_after-more : (target : Target) (frames : List Frame) (frame : Frame)
    → standing_after target (frames ++ frame ∷ []) ≡ after (standing_after target frames) frame
standing_after-more target frames frame = fold-append after (start target) frames (frame ∷ [])

pub exchanges-more : (target : Target) (frames : List Frame) (frame : Frame)
    → exchanges target (frames ++ frame ∷ []) ≡ exchanges target frames ++ exchange_by (standing_after target frames) frame
exchanges-more target frames frame = exchanges_from-more (start target) frames frame

abbrev requests_of : List Exchange → List Frame
requests_of xs = map (λ x. x.request) xs

-- the request that was asked, and the one that the frame leads to
asked_next : (standing : Standing) (frame : Frame) → IsSome (asked standing) → Moves standing frame
    → requests_of (exchange_by standing frame) ++ option_to_list (asked (after standing frame))
    ≡ option_to_list (asked standing) ++ request_by standing frame
asked_next standing frame asks (over none stays ends) = absurd cc
asked_next standing frame asks (skips goes ends leads) =
    rw (leads, ends, goes) (sym (append-nil (option_to_list (asked standing))))
asked_next standing frame asks (replies pdu asks' goes ends leads) =
    let some : asked standing ≡ Some (request_frame standing.target standing.number pdu) = ap (option_map (request_frame standing.target standing.number)) asks' in
    rw (leads, ends, goes, some) refl

pub requests-more : (target : Target) (frames : List Frame) (frame : Frame) → IsSome (asked (standing_after target frames))
    → requests target (frames ++ frame ∷ []) ≡ requests target frames ++ request_by (standing_after target frames) frame
requests-more target frames frame asks =
    let standing = standing_after target frames in
    let had = exchanges target frames in
    let by = exchange_by standing frame in
    ap (λ (xs : List Exchange). requests_of xs ++ option_to_list (asked (standing_after target (frames ++ frame ∷ [])))) (exchanges-more target frames frame)
    ∙ ap (λ (s : Standing). requests_of (had ++ by) ++ option_to_list (asked s)) (standing_after-more target frames frame)
    ∙ ap (λ (rs : List Frame). rs ++ option_to_list (asked (after standing frame))) (map-append (λ (x : Exchange). x.request) had by)
    ∙ append_assoc (requests_of had) (requests_of by) (option_to_list (asked (after standing frame)))
    ∙ ap (λ (rs : List Frame). requests_of had ++ rs) (asked_next standing frame asks (moves standing frame))
    ∙ sym (append_assoc (requests_of had) (option_to_list (asked standing)) (request_by standing frame))

-- a frame that is taken
pub standing_after-taken : (target : Target) (frames : List Frame) (frame : Frame) → IsSome (asked (standing_after target frames))
    → standing_after target (frames ++ frame ∷ []) ≡ taken (standing_after target frames) frame
standing_after-taken target frames frame asks =
    let standing = standing_after target frames in
    standing_after-more target frames frame ∙ ap (λ (b : Bool). cond b (taken standing frame) standing) asks

numbered_now : (standing : Standing) (pdu : Option (List ℕ))
    → AreNumbered standing.target standing.number (option_to_list (option_map (request_frame standing.target standing.number) pdu))
numbered_now standing None = tt
numbered_now standing (Some pdu) = (refl, refl, tt)

numbered_move : (standing : Standing) (frame : Frame) (frames : List Frame) → Moves standing frame
    → ((s : Standing) → AreNumbered s.target s.number (requests_of (exchanges_from s frames) ++ option_to_list (asked (fold after s frames))))
    → AreNumbered standing.target standing.number
    (requests_of (exchange_by standing frame ++ exchanges_from (after standing frame) frames) ++ option_to_list (asked (fold after (after standing frame) frames)))
numbered_move standing frame frames (over none stays ends) rest = rw (ends, stays) (rest standing)
numbered_move standing frame frames (skips goes ends leads) rest = rw (ends, goes) (rest (record standing { skipped = standing.skipped + 1 }))
numbered_move standing frame frames (replies pdu asks goes ends leads) rest = rw (ends, goes) (refl, refl, rest (replied standing frame))

-- from a standing on, requests have the numbers from its own on
pub numbered_from : (standing : Standing) (frames : List Frame)
    → AreNumbered standing.target standing.number (requests_of (exchanges_from standing frames) ++ option_to_list (asked (fold after standing frames)))
numbered_from standing [] = numbered_now standing (asked_pdu standing.target standing.stage)
numbered_from standing (frame ∷ frames) = numbered_move standing frame frames (moves standing frame) (λ s. numbered_from s frames)
