use Rattle.simulate_command.proofs.Simulating.{due}
use Rattle.simulate_command.proofs.laws.what_a_simulation_says.Goals as goal

pub returns : goal.returns
returns c = record { write_fault = λ simulation output row. row.0; due = due }
