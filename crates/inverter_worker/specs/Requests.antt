-- The requests of a run: which the ledger numbered, and which were sent or given back.
use Rattle.std.specs.Prelude.{ℕ, List, [], ◌∷◌}
use Rattle.std.specs.List.{flat_map}
use Rattle.plant_book.specs.declared.call.Reply.TheVariants as reply
use Rattle.inverter_worker.specs.declared.input.Input.{Input}
use Rattle.inverter_worker.specs.declared.input.Input.TheVariants as input
use Rattle.inverter_worker.specs.declared.output.Output.{Output}
use Rattle.inverter_worker.specs.declared.output.Output.TheVariants as output
use Rattle.inverter_worker.specs.declared.output.Asked.{Asked}
use Rattle.inverter_worker.specs.declared.output.Asked.TheVariants as asked
use Rattle.inverter_worker.specs.declared.state.Step.{Step}
use Rattle.inverter_worker.specs.declared.state.Step.TheVariants.{Asking, Window, ReadAsking, ReadWindow}
use Rattle.inverter_worker.specs.Runs.{RunStep}

-- a request that a reply numbers: the grant of a limit that was asked for, or a read-back
abbrev pub requests_in : Step → Input → List Asked
requests_in Asking (input.Reply (reply.Granted write)) = asked.Write write ∷ []
requests_in ReadAsking (input.Reply (reply.ReadAs read)) = asked.Read read ∷ []
requests_in _ _ = []

-- a request that is sent, or a write that is given back
abbrev pub requests_out : Output → List Asked
requests_out (output.Send request clock) = request ∷ []
requests_out (output.Release write moment) = asked.Write write ∷ []
requests_out _ = []

-- a request that is to be sent or given back next
abbrev pub request_next : Step → List Asked
request_next (Window write) = asked.Write write ∷ []
request_next (ReadWindow read) = asked.Read read ∷ []
request_next _ = []

-- the requests that the ledger numbered in a run, and those that were sent or given back
abbrev pub requests_numbered : List RunStep → List Asked
requests_numbered run = flat_map (λ one. requests_in one.state.step one.input) run

abbrev pub requests_done : List RunStep → List Asked
requests_done run = flat_map (λ one. requests_out one.output) run
