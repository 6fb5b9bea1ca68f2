-- What `simulate` writes, how it ends, and which end comes.
use Rattle.std.specs.Prelude.{◌≡◌, ℕ, ◌≤◌, ◌⊎◌, List}
use Rattle.plant_simulator.specs.declared.summary.Summary.{Summary}
use Rattle.plant_simulator.specs.Summary.{summary_of}
use Rattle.plant_simulator.specs.Peak.{IsPeak}
use Rattle.plant_simulator.specs.Text.{text_of}
use Rattle.simulate_command.specs.declared.command.Simulation.{Simulation}
use Rattle.command_io.specs.declared.ended.Ended.{Ended}
use Rattle.command_io.specs.declared.ended.Ended.TheVariants as ends
use Rattle.stream_io.specs.Streams.{Change, Fails, GainsText, GainsFront, GainsNothing}

-- The text of what this simulation comes to. The peak that it tells is the greatest sum of the limits that were held
-- at the beginning and at the ends of the steps, and is at most the cap that it tells.
pub record IsSimulated (simulation : Simulation) (text : List ℕ) : Type 0 where
  pub summary : Summary
  pub text_is : text ≡ text_of simulation.seed simulation.inverters simulation.steps summary
  pub summary_is : summary ≡ summary_of simulation.seed simulation.inverters simulation.steps
  pub greatest : IsPeak simulation.seed simulation.inverters simulation.steps summary.peak
  pub under_the_cap : summary.peak ≤ summary.cap

-- The ends of `simulate`, each with its cause and what the output gained. It has no others.
abbrev pub IsSimulateEnd : Simulation → Ended → Change → Type 0
IsSimulateEnd simulation ends.Done output = GainsText (IsSimulated simulation) output
IsSimulateEnd simulation ends.WriteFault output = Fails output × GainsFront (IsSimulated simulation) output
IsSimulateEnd simulation ends.NoMemory output = GainsNothing output
IsSimulateEnd simulation _ output = ⊥

-- Which end comes: it is done, unless memory runs out or the output fails.
abbrev pub IsSimulateDue : Ended → Change → Type 0
IsSimulateDue ended output = (Fails output → ⊥) → (ended ≡ ends.Done) ⊎ (ended ≡ ends.NoMemory)
