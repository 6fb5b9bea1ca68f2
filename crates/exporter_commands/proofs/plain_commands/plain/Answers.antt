use Rattle.std.proofs.Common.{ℕ, List, map, subst}
use Rattle.std.specs.String.{string_bytes}
use Rattle.simulate_command.specs.declared.command.Simulation.{Simulation}
use Rattle.stream_io.specs.Streams.{change}
use Rattle.simulate_command.specs.Simulate.{IsSimulateEnd}
use Rattle.exporter_commands.specs.Words.{AreSimulate}
use Rattle.exporter_commands.proofs.OneSimulation.{one_simulation}
use Rattle.exporter_commands.proofs.plain_commands.plain.Goals as goal

pub returns-in-Some-Simulate-clause-simulate : goal.returns-in-Some-Simulate-clause-simulate
returns-in-Some-Simulate-clause-simulate g c = λ simulation asked.
    let words : List (List ℕ) = map string_bytes c.args.words.now.items in
    let asks : AreSimulate words c.in-Some-Simulate.simulation = rw c.in-Some-Simulate.field-0-is at c.in-Some-Simulate.ensures.some in
    subst (λ (other : Simulation). IsSimulateEnd other c.simulate.result (change g.O.Sink.taken g.O.Sink.faults c.args.out.now c.simulate.new.out))
    (one_simulation words c.in-Some-Simulate.simulation simulation asks asked) c.simulate.ensures.ends
