-- What several sends in a row leave on the links.
use Rattle.std.proofs.Common.{◌≡◌, ◌++◌, ◌+◌, ◌-◌, ◌≤◌, ◌∙◌, ℕ, List, [], Option, Some, None, length, take, drop, refl, sym, ap, append-nil, append_assoc, arith}
use Rattle.std.proofs.lemmas.List.{drop-drop, take_all, length-drop}
use Rattle.std.proofs.Math.Seq.{take-add}
use Rattle.std.specs.Option.{option_map}
use Rattle.world_traits.specs.Links.{Link, Links, link_with_bytes, with_bytes}

-- a step that changes nothing, where there is something
same : {A : Type 0} (f : A → A) → ((x : A) → f x ≡ x) → (o : Option A) → option_map f o ≡ o
same f is None = refl
same f is (Some x) = ap Some (is x)

-- one step and then another, where there is something
both : {A : Type 0} (f g h : A → A) → ((x : A) → g (f x) ≡ h x) → (o : Option A) → option_map g (option_map f o) ≡ option_map h o
both f g h is None = refl
both f g h is (Some x) = ap Some (is x)

with_current : Links → Option Link → Links
with_current links current = record links { current = current }

link_no_bytes : (link : Link) → link_with_bytes [] link ≡ link
link_no_bytes link = ap (λ (bytes : List ℕ). record link { sent = bytes }) (append-nil link.sent)

link_bytes_bytes : (first second : List ℕ) (link : Link) → link_with_bytes second (link_with_bytes first link) ≡ link_with_bytes (first ++ second) link
link_bytes_bytes first second link = ap (λ (bytes : List ℕ). record link { sent = bytes }) (append_assoc link.sent first second)

-- no bytes change nothing
pub no_bytes : (told : Option Links) → option_map (with_bytes []) told ≡ told
unfolding with_current
no_bytes told = same (with_bytes []) (λ links. ap (with_current links) (same (link_with_bytes []) link_no_bytes links.current)) told

-- the bytes of one send and those of the next
pub bytes_bytes : (first second : List ℕ) (told : Option Links)
    → option_map (with_bytes second) (option_map (with_bytes first) told) ≡ option_map (with_bytes (first ++ second)) told
unfolding with_current
bytes_bytes first second told =
    both (with_bytes first) (with_bytes second) (with_bytes (first ++ second)) (λ links. ap (with_current links)
    (both (link_with_bytes first) (link_with_bytes second) (link_with_bytes (first ++ second)) (link_bytes_bytes first second) links.current)) told

-- a front of the bytes was sent, and then a front of the rest
pub front_more : (told now next : Option Links) (bytes rest : List ℕ) (sent count : ℕ)
    → sent ≤ length bytes → rest ≡ drop sent bytes → now ≡ option_map (with_bytes (take sent bytes)) told
    → count ≤ length rest → next ≡ option_map (with_bytes (take count rest)) now
    → (x : ℕ) × (x ≤ length bytes) × (take (length rest - count) (drop count rest) ≡ drop x bytes)
    × (next ≡ option_map (with_bytes (take x bytes)) told)
front_more told now next bytes rest sent count within is so_far some more = (
  sent + count,
  omega (arith, ap length is, length-drop sent bytes),
  take_all (length rest - count) (drop count rest) (omega (arith, length-drop count rest)) ∙ ap (λ (t : List ℕ). drop count t) is ∙ drop-drop count sent bytes,
  more ∙ ap (λ (o : Option Links). option_map (with_bytes (take count rest)) o) so_far ∙ bytes_bytes (take sent bytes) (take count rest) told
      ∙ ap (λ (t : List ℕ). option_map (with_bytes (take sent bytes ++ take count t)) told) is
      ∙ ap (λ (t : List ℕ). option_map (with_bytes t) told) (sym (take-add sent count bytes)),
)
