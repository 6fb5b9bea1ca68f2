-- One turn of a worker, and how short it is.
use Rattle.std.specs.Prelude.{◌≢◌, ℕ, ◌≤◌, List, [], ◌∷◌, length}
use Rattle.std.specs.List.{flat_map}
use Rattle.inverter_worker.specs.declared.input.Input.{Input}
use Rattle.inverter_worker.specs.declared.input.Input.TheVariants as input
use Rattle.inverter_worker.specs.declared.state.Step.TheVariants.{Ready}
use Rattle.inverter_worker.specs.Runs.{RunStep, log}

-- the readings of the clock that came in a run, in order
abbrev pub reading_in : Input → List ℕ
reading_in (input.Time clock) = clock ∷ []
reading_in _ = []

abbrev pub readings : List RunStep → List ℕ
readings run = flat_map (λ one. reading_in one.input) run

-- whether a step goes on with a turn, and doesn't begin one
abbrev pub IsWithinTurn : RunStep → Type 0
IsWithinTurn one = one.state.step ≢ Ready

-- at most 32 steps, 6 readings of the clock and 2 requests
pub record IsShort (run : List RunStep) : Type 0 where
  pub steps : length run ≤ 32
  pub clock : length (readings run) ≤ 6
  pub requests : length (log run) ≤ 2
