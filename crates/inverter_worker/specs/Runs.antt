-- A run of the table, its calls, and its log.
use Rattle.std.specs.Prelude.{◌≡◌, ℕ, false, IsTrue, List, [], ◌∷◌, Some, None}
use Rattle.std.specs.List.{flat_map}
use Rattle.plant_book.specs.declared.call.Call.{Call}
use Rattle.plant_ledger.specs.Release.{back_of}
use Rattle.inverter_worker.specs.declared.job.Job.{Job}
use Rattle.inverter_worker.specs.declared.input.Input.{Input}
use Rattle.inverter_worker.specs.declared.output.Output.{Output}
use Rattle.inverter_worker.specs.declared.output.Output.TheVariants as output
use Rattle.inverter_worker.specs.declared.output.Asked.{Asked}
use Rattle.inverter_worker.specs.declared.output.Asked.TheVariants as asked
use Rattle.inverter_worker.specs.declared.output.Sent.{Sent}
use Rattle.inverter_worker.specs.declared.state.State.{State}
use Rattle.inverter_worker.specs.declared.state.Step.TheVariants.{Ready}
use Rattle.inverter_worker.specs.States.{in_window}
use Rattle.inverter_worker.specs.Table.{table}

-- one step of a run: a state, the input that came in it, and the output that followed
pub record RunStep : Type 0 where
  pub state : State
  pub input : Input
  pub output : Output

-- Steps lead from a state to a state: each output, and each state behind it, is the table's for the state
-- and the input.
abbrev pub LeadsTo : Job → State → List RunStep → State → Type 0
LeadsTo job from [] last = from ≡ last
LeadsTo job from (one ∷ later) last =
    (one.state ≡ from)
    × ((next : State) × ((table job from one.input ≡ Some (next, one.output)) × LeadsTo job next later last))

-- a worker begins at Ready, with no link, and with all its turns
abbrev pub first_state : (turns : ℕ) → State
first_state turns = record { step = Ready; up = false; last = None; turns = turns; skipped = 0 }

-- a run of so many turns, which has come to a state
abbrev pub IsRun : Job → (turns : ℕ) → List RunStep → State → Type 0
IsRun job turns run state = LeadsTo job (first_state turns) run state

-- the calls that a step makes: a Call, or the Back of a Release
abbrev pub calls_of : Output → List Call
calls_of (output.Call call) = call ∷ []
calls_of (output.Release write moment) = back_of write moment ∷ []
calls_of _ = []

-- the requests that a step sends, each with its reading of the clock
abbrev pub sends_of : Output → List Sent
sends_of (output.Send request clock) = record { request = request; clock = clock } ∷ []
sends_of _ = []

-- the calls of a run, and its log
abbrev pub calls : List RunStep → List Call
calls run = flat_map (λ one. calls_of one.output) run

abbrev pub log : List RunStep → List Sent
log run = flat_map (λ one. sends_of one.output) run

-- a write is sent within its send window; a read-back has none
abbrev pub IsInWindow : Job → Asked → (clock : ℕ) → Type 0
IsInWindow job (asked.Write write) clock = IsTrue (in_window job write clock)
IsInWindow job (asked.Read read) clock = Unit {0}

abbrev pub IsInTime : Job → Sent → Type 0
IsInTime job sent = IsInWindow job sent.request sent.clock
