-- What a call makes of the record of a link that is up, and what one receive more makes of its receives.
use Rattle.std.proofs.Common.{◌≡◌, ℕ, List, [], ◌∷◌, ◌++◌, length, Option, Some, None, refl, sym, ap, subst, ◌∙◌, append_assoc, append-nil}
use Rattle.std.specs.Option.{option_map}
use Rattle.std.specs.Prelude.{IfSome}
use Rattle.std.specs.List.{flat_map}
use Rattle.std.proofs.lemmas.List.Concat.{flat_map-append}
use Rattle.world_traits.specs.Links.{Answer, Failed, Link, Links, Receipt, answer_bytes, received_bytes, after_hang_up, link_with_bytes, link_with_receipt, with_bytes, with_receipt, with_failure}
use Rattle.commissioning.specs.declared.target.Target.{Target}
use Rattle.commission_run.specs.Course.{AwaitsReply, EachAwaits}
use Rattle.commission_run.specs.Arriving.{with_current}

-- the record has this link up
abbrev pub IsUp : Link → (told now : Option Links) → Type 0
IsUp link told now = now ≡ option_map (with_current link) told

-- the record has this link over, or it has it after a hang-up
abbrev pub IsOver : Link → (told now : Option Links) → Type 0
IsOver link told now = option_map after_hang_up now ≡ option_map (λ links. after_hang_up (with_current link links)) told

pub up_at_first : (told : Option Links) (link : Link) → IfSome told (λ links. links.current ≡ Some link) → IsUp link told told
up_at_first None link up = refl
up_at_first (Some links) link up = ap (λ (current : Option Link). Some (record links { current = current })) up

pub up_sends : (told now next : Option Links) (link : Link) (bytes : List ℕ) → IsUp link told now → next ≡ option_map (with_bytes bytes) now
    → IsUp (link_with_bytes bytes link) told next
up_sends None now next link bytes up is = is ∙ ap (λ (o : Option Links). option_map (with_bytes bytes) o) up
up_sends (Some links) now next link bytes up is = is ∙ ap (λ (o : Option Links). option_map (with_bytes bytes) o) up

pub up_receives : (told now next : Option Links) (link : Link) (answer : Answer) → IsUp link told now → next ≡ option_map (with_receipt answer) now
    → IsUp (link_with_receipt answer link) told next
up_receives None now next link answer up is = is ∙ ap (λ (o : Option Links). option_map (with_receipt answer) o) up
up_receives (Some links) now next link answer up is = is ∙ ap (λ (o : Option Links). option_map (with_receipt answer) o) up

pub up_fails : (told now next : Option Links) (link : Link) → IsUp link told now → next ≡ option_map with_failure now
    → IsOver (link_with_receipt Failed link) told next
up_fails None now next link up is = ap (λ (o : Option Links). option_map after_hang_up o) (is ∙ ap (λ (o : Option Links). option_map with_failure o) up)
up_fails (Some links) now next link up is = ap (λ (o : Option Links). option_map after_hang_up o) (is ∙ ap (λ (o : Option Links). option_map with_failure o) up)

pub up_ends : (told now : Option Links) (link : Link) → IsUp link told now → IsOver link told now
up_ends None now link up = ap (λ (o : Option Links). option_map after_hang_up o) up
up_ends (Some links) now link up = ap (λ (o : Option Links). option_map after_hang_up o) up

-- the bytes that came, with those of one receive more
pub received-more : (link : Link) (answer : Answer) → received_bytes (link_with_receipt answer link) ≡ received_bytes link ++ answer_bytes answer
received-more link answer =
    flat_map-append (λ receipt. answer_bytes receipt.answer) link.receipts (record { answer = answer; sent_before = length link.sent } ∷ [])
    ∙ ap (λ (t : List ℕ). received_bytes link ++ t) (append-nil (answer_bytes answer))

-- each receive awaits a reply, and so does one more
pub awaits-more : (target : Target) (came : List ℕ) (receipts : List Receipt) (receipt : Receipt) → EachAwaits target came receipts
    → AwaitsReply target (came ++ flat_map (λ receipt. answer_bytes receipt.answer) receipts) receipt.sent_before
    → EachAwaits target came (receipts ++ receipt ∷ [])
awaits-more target came [] receipt each last = (subst (λ (t : List ℕ). AwaitsReply target t receipt.sent_before) (append-nil came) last, tt)
awaits-more target came (first ∷ receipts) receipt each last = (
  each.0,
  awaits-more target (came ++ answer_bytes first.answer) receipts receipt each.1
      (subst (λ (t : List ℕ). AwaitsReply target t receipt.sent_before)
      (sym (append_assoc came (answer_bytes first.answer) (flat_map (λ receipt. answer_bytes receipt.answer) receipts))) last),
)
