-- Words ask for one task at most.
use Rattle.std.proofs.Common.{◌≡◌, ℕ, ◌≤◌, List, [], length, sym, ap, ◌∙◌, arith, get_or}
use Rattle.std.specs.Fmt.{decimal}
use Rattle.std.proofs.lemmas.Fmt.{decimal_injective}
use Rattle.exporter_commands.specs.declared.words.Task.{Task}
use Rattle.exporter_commands.specs.declared.words.Task.TheVariants as tasks
use Rattle.exporter_commands.specs.Words.{AreRun, Ask, IsTask, words_of}

-- a word of a list
abbrev word : ℕ → List (List ℕ) → List ℕ
word place words = get_or words place []

one_decimal : (m n : ℕ) → m ≤ 1000000 → n ≤ 1000000 → decimal m ≡ decimal n → m ≡ n
one_decimal m n low high e = decimal_injective m n (omega (arith, low)) (omega (arith, high)) e

same_task : (a b : Task) → IsTask a → IsTask b → words_of a ≡ words_of b → a ≡ b
same_task (tasks.Commission i) (tasks.Commission j) p q e =
    ap tasks.Commission (one_decimal i j (omega (arith, p)) (omega (arith, q)) (ap (word 1) e))
same_task (tasks.Serve i m) (tasks.Serve j n) p q e =
    let first : i ≡ j = one_decimal i j (omega (arith, p.0)) (omega (arith, q.0)) (ap (word 1) e) in
    let second : m ≡ n = one_decimal m n p.2 q.2 (ap (word 2) e) in
    ap (λ (k : ℕ). tasks.Serve k m) first ∙ ap (λ (k : ℕ). tasks.Serve j k) second
same_task (tasks.Commission i) (tasks.Serve j n) p q e = absurd (omega (arith, ap length e))
same_task (tasks.Serve i m) (tasks.Commission j) p q e = absurd (omega (arith, ap length e))

pub one_task : (words : List (List ℕ)) (a b : Task) → Ask words a → Ask words b → a ≡ b
one_task words a b p q = same_task a b p.0 q.0 (sym p.1 ∙ q.1)

-- the words of a run ask for one, and for no task

pub one_run : (words : List (List ℕ)) (a b : ℕ) → AreRun words a → AreRun words b → a ≡ b
one_run words a b p q = one_decimal a b p.few q.few (ap (word 1) (sym p.words_are ∙ q.words_are))

pub no_run : (words : List (List ℕ)) (task : Task) (turns : ℕ) → Ask words task → AreRun words turns → ⊥
no_run words (tasks.Commission inverter) turns p q = omega (arith, ap (λ (ws : List (List ℕ)). length (word 0 ws)) (sym p.1 ∙ q.words_are))
no_run words (tasks.Serve inverter many) turns p q = omega (arith, ap length (sym p.1 ∙ q.words_are))
