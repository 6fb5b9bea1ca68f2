-- The words that `plain` and `live` take.
use Rattle.std.specs.Prelude.{◌≡◌, ℕ, ◌<◌, ◌≤◌, ◌^◌, ◌⊎◌, List, [], ◌∷◌, codes}
use Rattle.std.specs.Fmt.{decimal}
use Rattle.simulate_command.specs.declared.command.Simulation.{Simulation}
use Rattle.exporter_commands.specs.declared.command.Command.{Command}
use Rattle.exporter_commands.specs.declared.command.Command.TheVariants as commands
use Rattle.exporter_commands.specs.declared.words.Task.{Task}
use Rattle.exporter_commands.specs.declared.words.Task.TheVariants as tasks

-- the words are the one that asks for a replay
abbrev pub AreReplay : List (List ℕ) → Type 0
AreReplay words = words ≡ codes "replay" ∷ []

-- the words are the one that asks for a replay of an input with buses
abbrev pub AreNested : List (List ℕ) → Type 0
AreNested words = words ≡ codes "nested" ∷ []

-- the words are the one that asks for a check
abbrev pub AreCheck : List (List ℕ) → Type 0
AreCheck words = words ≡ codes "check" ∷ []

-- the words of a simulation: its name and its numbers
abbrev pub simulate_words : Simulation → List (List ℕ)
simulate_words simulation = codes "simulate" ∷ decimal simulation.seed
    ∷ decimal simulation.inverters ∷ decimal simulation.steps ∷ []

-- the words ask for this simulation, whose numbers are in their ranges
pub record AreSimulate (words : List (List ℕ)) (simulation : Simulation) : Type 0 where
  pub seed_fits : simulation.seed < 2 ^ 64
  pub some : 1 ≤ simulation.inverters
  pub few : simulation.inverters ≤ 64
  pub steps_low : 1 ≤ simulation.steps
  pub steps_high : simulation.steps ≤ 1000000
  pub words_are : words ≡ simulate_words simulation

-- the words ask for this command
abbrev pub Asks : List (List ℕ) → Command → Type 0
Asks words commands.Replay = AreReplay words
Asks words commands.Nested = AreNested words
Asks words commands.Check = AreCheck words
Asks words (commands.Simulate simulation) = AreSimulate words simulation

-- the words ask for a command that reads its input
abbrev pub AskToRead : List (List ℕ) → Type 0
AskToRead words = AreReplay words ⊎ AreNested words ⊎ AreCheck words

-- the words ask for a run with so many turns of each worker
pub record AreRun (words : List (List ℕ)) (turns : ℕ) : Type 0 where
  pub some : 1 ≤ turns
  pub few : turns ≤ 1000000
  pub words_are : words ≡ codes "run" ∷ decimal turns ∷ []

-- the words of a task: its name and its numbers
abbrev pub words_of : Task → List (List ℕ)
words_of (tasks.Commission inverter) = codes "commission" ∷ decimal inverter ∷ []
words_of (tasks.Serve inverter turns) = codes "serve" ∷ decimal inverter ∷ decimal turns ∷ []

-- the numbers of a task are in their ranges
abbrev pub IsTask : Task → Type 0
IsTask (tasks.Commission inverter) = inverter ≤ 63
IsTask (tasks.Serve inverter turns) = (inverter ≤ 63) × (1 ≤ turns) × (turns ≤ 1000000)

-- the words ask for this task
abbrev pub Ask : List (List ℕ) → Task → Type 0
Ask words task = IsTask task × (words ≡ words_of task)
