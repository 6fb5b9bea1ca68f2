-- What the receives of a wait answered.
use Rattle.std.proofs.Common.{◌≡◌, ℕ, List, [], ◌∷◌, ◌++◌, Option, Some, Result, Ok, Err, refl, sym, ap, subst, ◌∙◌, append-nil, append_assoc, length}
use Rattle.std.specs.Prelude.{map}
use Rattle.std.specs.Option.{option_map}
use Rattle.std.proofs.lemmas.List.{map-append}
use Rattle.world_traits.specs.Links.{Answer, Bytes, Quiet, Closed, Failed, Link, Links, Receipt, link_with_receipt, with_receipt, with_failure}
use Rattle.mbap_frames.specs.declared.frame.Frame.{Frame}
use Rattle.frame_inbox.specs.declared.inbox.NoFrame.{NoFrame}
use Rattle.frame_inbox.specs.declared.inbox.NoFrame.TheVariants as none
use Rattle.frame_inbox.specs.Waiting.{with_pieces, EndsWait}
use Rattle.inverter_worker.specs.declared.job.Job.{Job}
use Rattle.inverter_worker.specs.declared.input.Input.{Input}
use Rattle.inverter_worker.specs.declared.output.Output.TheVariants as output
use Rattle.worker_turn.specs.Doing.{World, IsDone, input_of_wait}
use Rattle.worker_turn.specs.Answered.{answers, answer_told, links_after, IsAnswered}

-- links with one that is up
abbrev up_with : List Link → Link → Links
up_with past link = record { past = past; current = Some link }

answers-push : (answer : Answer) (link : Link) → answers (link_with_receipt answer link) ≡ answers link ++ answer ∷ []
answers-push answer link =
    map-append (λ (r : Receipt). r.answer) link.receipts (record { answer = answer; sent_before = length link.sent } ∷ [])

-- a link after some receives
abbrev Gains : List Answer → Link → Link → Type 0
Gains more old new = (answers new ≡ answers old ++ more) × (new ≡ record old { receipts = new.receipts })

gains_more : (a b : List Answer) (old mid new : Link) → Gains a old mid → Gains b mid new → Gains (a ++ b) old new
gains_more a b old mid new first last = (
  last.0 ∙ ap (λ (t : List Answer). t ++ b) first.0 ∙ append_assoc (answers old) a b,
  last.1 ∙ ap (λ (l : Link). record l { receipts = new.receipts }) first.1,
)

gains_one : (answer : Answer) (link : Link) → Gains (answer ∷ []) link (link_with_receipt answer link)
gains_one answer link = (answers-push answer link, refl)

gains_none : (link : Link) → Gains [] link link
gains_none link = (sym (append-nil (answers link)), refl)

pieces_kept : (pieces : List (List ℕ)) (past : List Link) (link : Link)
    → (after : Link) × (with_pieces pieces (up_with past link) ≡ up_with past after) × Gains (map Bytes pieces) link after
pieces_kept [] past link = (link, refl, gains_none link)
pieces_kept (piece ∷ pieces) past link =
    let later = pieces_kept pieces past (link_with_receipt (Bytes piece) link) in
    (later.0, later.1, gains_more (Bytes piece ∷ []) (map Bytes pieces) link (link_with_receipt (Bytes piece) link) later.0 (gains_one (Bytes piece) link) later.2)

abbrev EndsAs : Input → List Link → Link → Option Links → Type 0
EndsAs came past mid new = (after : Link) × (new ≡ Some (links_after came past after)) × Gains (answer_told came) mid after

ends_as : (result : Result Frame NoFrame) (bytes rest : List ℕ) (between new : Option Links) (past : List Link) (mid : Link) → EndsWait result bytes rest between new
    → between ≡ Some (up_with past mid) → EndsAs (input_of_wait result) past mid new
ends_as (Ok frame) bytes rest between new past mid ends is = (mid, ends.2 ∙ is, gains_none mid)
ends_as (Err none.Quiet) bytes rest between new past mid ends is =
    (link_with_receipt Quiet mid, ends.1 ∙ ap (option_map (with_receipt Quiet)) is, gains_one Quiet mid)
ends_as (Err none.Closed) bytes rest between new past mid ends is =
    (link_with_receipt Closed mid, ends.1 ∙ ap (option_map (with_receipt Closed)) is, gains_one Closed mid)
ends_as (Err none.RecvFailed) bytes rest between new past mid ends is =
    (link_with_receipt Failed mid, ends.1 ∙ ap (option_map with_failure) is, gains_one Failed mid)
ends_as (Err (none.BadFrame fault)) bytes rest between new past mid ends is = (mid, ends.1 ∙ is, gains_none mid)

pub answered : (job : Job) (came : Input) (old new : World) (links : Links) (link : Link) → IsDone job output.Receive came old new → old.links ≡ Some links
    → links.current ≡ Some link → IsAnswered came links link new.links
answered job came old new links link done told up =
    let result = done.1.result in
    let wait = done.1.wait in
    let shape : links ≡ up_with links.past link = ap (λ (c : Option Link). record { past = links.past; current = c }) up in
    let kept = pieces_kept wait.pieces links.past link in
    let between : wait.between ≡ Some (up_with links.past kept.0) =
    wait.receives.links ∙ ap (option_map (with_pieces wait.pieces)) (told ∙ ap (λ (l : Links). Some l) shape) ∙ ap (λ (l : Links). Some l) kept.1 in
    let ends = ends_as result _ new.unread wait.between new.links links.past kept.0 wait.ends between in
    let pieces : List Answer = map Bytes wait.pieces in
    let ended : List Answer = answer_told (input_of_wait result) in
    let gains = gains_more pieces ended link kept.0 ends.0 kept.2 ends.2 in
    let is : IsAnswered (input_of_wait result) links link new.links =
    record { pieces = wait.pieces; after = ends.0; answers = gains.0 ∙ sym (append_assoc (answers link) pieces ended); same = gains.1; now = ends.1 } in
    let P : Input → Type 0 = λ i. IsAnswered i links link new.links in
    subst P (sym done.1.is) is
