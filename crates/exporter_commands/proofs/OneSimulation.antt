-- Words ask for one simulation at most.
use Rattle.std.proofs.Common.{◌≡◌, ℕ, List, [], sym, ap, ◌∙◌, arith, get_or}
use Rattle.std.proofs.lemmas.Fmt.{decimal_injective}
use Rattle.simulate_command.specs.declared.command.Simulation.{Simulation}
use Rattle.exporter_commands.specs.Words.{AreSimulate, simulate_words}

-- a word of a list
abbrev word : ℕ → List (List ℕ) → List ℕ
word place words = get_or words place []

pub one_simulation : (words : List (List ℕ)) (a b : Simulation) → AreSimulate words a → AreSimulate words b → a ≡ b
one_simulation words a b p q =
    let e : simulate_words a ≡ simulate_words b = sym p.words_are ∙ q.words_are in
    let seed : a.seed ≡ b.seed = decimal_injective a.seed b.seed p.seed_fits q.seed_fits (ap (word 1) e) in
    let inverters : a.inverters ≡ b.inverters = decimal_injective a.inverters b.inverters (omega arith) (omega arith) (ap (word 2) e) in
    let steps : a.steps ≡ b.steps = decimal_injective a.steps b.steps (omega arith) (omega arith) (ap (word 3) e) in
    ap (λ (n : ℕ). record { seed = n; inverters = a.inverters; steps = a.steps }) seed
    ∙ ap (λ (n : ℕ). record { seed = b.seed; inverters = n; steps = a.steps }) inverters
    ∙ ap (λ (n : ℕ). record { seed = b.seed; inverters = b.inverters; steps = n }) steps
