-- The first fault of checks that are made one inverter after the other.
use Rattle.std.proofs.Common.{◌≡◌, ℕ, ◌+◌, ◌<◌, List, [], ◌∷◌, ◌++◌, length, drop, get_or, Option, Some, None, refl, ap, ◌∙◌}
use Rattle.std.specs.Option.{option_or}
use Rattle.std.specs.List.{flat_map, enumerate_from}
use Rattle.std.proofs.lemmas.List.{drop_more}
use Rattle.std.proofs.Math.Seq.{drop-length}
use Rattle.site_config.specs.declared.fault.SiteFault.{SiteFault}
use Rattle.site_config.specs.Checks.{first_fault, each}

pub first_fault-append : (xs ys : List (Option SiteFault)) → first_fault (xs ++ ys) ≡ option_or (first_fault xs) (first_fault ys)
first_fault-append [] ys = refl
first_fault-append (None ∷ xs) ys = first_fault-append xs ys
first_fault-append (Some fault ∷ xs) ys = refl

-- the checks of the inverters from a number on
abbrev pub each_from : {X : Type 0} → (ℕ → X → List (Option SiteFault)) → ℕ → List X → List (Option SiteFault)
each_from checks n xs = flat_map (λ entry. checks entry.0 entry.1) (enumerate_from n xs)

-- the inverters below a number have no fault: the first is that of the others
abbrev pub PassesUpTo : {X : Type 0} → (ℕ → X → List (Option SiteFault)) → List X → ℕ → Type 0
PassesUpTo checks xs n = first_fault (each checks xs) ≡ first_fault (each_from checks n (drop n xs))

-- the first fault is that of the inverter at the number, or else of those behind it
first_at : {X : Type 0} (checks : ℕ → X → List (Option SiteFault)) (xs : List X) (n : ℕ) (x : X) → n < length xs → get_or xs n x ≡ x → PassesUpTo checks xs n
    → first_fault (each checks xs) ≡ option_or (first_fault (checks n x)) (first_fault (each_from checks (n + 1) (drop (n + 1) xs)))
first_at checks xs n x within here passes =
    passes ∙ ap (λ rest. first_fault (each_from checks n rest)) (drop_more xs n x within)
    ∙ ap (λ y. first_fault (each_from checks n (y ∷ drop (n + 1) xs))) here
    ∙ first_fault-append (checks n x) (each_from checks (n + 1) (drop (n + 1) xs))

pub passes_more : {X : Type 0} (checks : ℕ → X → List (Option SiteFault)) (xs : List X) (n : ℕ) (x : X) → n < length xs → get_or xs n x ≡ x → PassesUpTo checks xs n
    → first_fault (checks n x) ≡ None → PassesUpTo checks xs (n + 1)
passes_more checks xs n x within here passes none =
    first_at checks xs n x within here passes ∙ ap (λ first. option_or first (first_fault (each_from checks (n + 1) (drop (n + 1) xs)))) none

pub fault_at : {X : Type 0} (checks : ℕ → X → List (Option SiteFault)) (xs : List X) (n : ℕ) (x : X) (fault : SiteFault) → n < length xs → get_or xs n x ≡ x → PassesUpTo checks xs n
    → first_fault (checks n x) ≡ Some fault → first_fault (each checks xs) ≡ Some fault
fault_at checks xs n x fault within here passes found =
    first_at checks xs n x within here passes ∙ ap (λ first. option_or first (first_fault (each_from checks (n + 1) (drop (n + 1) xs)))) found

pub passes_all : {X : Type 0} (checks : ℕ → X → List (Option SiteFault)) (xs : List X) (n : ℕ) → n ≡ length xs → PassesUpTo checks xs n → first_fault (each checks xs) ≡ None
passes_all checks xs n all passes =
    passes ∙ ap (λ m. first_fault (each_from checks n (drop m xs))) all ∙ ap (λ rest. first_fault (each_from checks n rest)) (drop-length xs)
