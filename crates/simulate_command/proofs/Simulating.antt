-- Which end of `simulate` comes.
use Rattle.std.proofs.Common.{inl, inr, refl}
use Rattle.stream_io.specs.Streams.{Change}
use Rattle.command_io.specs.declared.ended.Ended.{Ended}
use Rattle.command_io.specs.declared.ended.Ended.TheVariants as ends
use Rattle.simulate_command.specs.declared.command.Simulation.{Simulation}
use Rattle.simulate_command.specs.Simulate.{IsSimulateDue, IsSimulateEnd}

pub due : (simulation : Simulation) (ended : Ended) (output : Change) → IsSimulateEnd simulation ended output → IsSimulateDue ended output
due simulation ends.Done output row = λ written. inl refl
due simulation ends.WriteFault output row = λ written. absurd (written row.0)
due simulation ends.NoMemory output row = λ written. inr refl
due simulation ends.ReadFault output row = absurd row
due simulation (ends.BadSite fault) output row = absurd row
due simulation (ends.TooLong limit) output row = absurd row
due simulation ends.BadWords output row = absurd row
due simulation (ends.BadLine line kind) output row = absurd row
due simulation (ends.BookFull calls) output row = absurd row
due simulation (ends.Refused fault) output row = absurd row
due simulation (ends.BadBus fault) output row = absurd row
