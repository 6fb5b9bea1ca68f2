-- What several writes in a row leave in a sink.
use Rattle.std.proofs.Common.{◌≡◌, ℕ, ◌-◌, ◌≤◌, List, ◌++◌, length, take, drop, Option, sym, ap, ◌∙◌, append_assoc, take-append-drop, arith}
use Rattle.std.specs.Io.KnownBytes.{Appends}
use Rattle.std.proofs.KnownBytes.{Appends-trans}
use Rattle.std.proofs.lemmas.List.{take_all, length-drop}

-- a write took the first bytes of what was left
pub front_more : (old mid new : Option (List ℕ)) (bytes front rest : List ℕ) (n : ℕ) → bytes ≡ front ++ rest → Appends old mid front → Appends mid new (take n rest) → n ≤ length rest
    → (more : List ℕ) × (bytes ≡ more ++ take (length rest - n) (drop n rest)) × Appends old new more
front_more old mid new bytes front rest n is so_far more le = (
  front ++ take n rest,
  is ∙ ap (λ (t : List ℕ). front ++ t) (sym (take-append-drop n rest)) ∙ sym (append_assoc front (take n rest) (drop n rest))
      ∙ ap (λ (t : List ℕ). (front ++ take n rest) ++ t) (sym (take_all (length rest - n) (drop n rest) (omega (arith, length-drop n rest)))),
  Appends-trans old mid new front (take n rest) so_far more,
)
