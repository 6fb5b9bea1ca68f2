-- What a turn has left: steps, readings of the clock and requests.
use Rattle.std.proofs.Common.{◌≡◌, ◌≢◌, ℕ, ◌+◌, ◌<◌, ◌≤◌, length, Some, None, refl, ◌∙◌, arith}
use Rattle.ledger_desk.specs.Desk.{DeskState, DeskTests, TestsLast}
use Rattle.inverter_worker.specs.declared.job.Job.{Job}
use Rattle.inverter_worker.specs.declared.input.Input.{Input}
use Rattle.inverter_worker.specs.declared.output.Output.{Output}
use Rattle.inverter_worker.specs.declared.output.Output.TheVariants as output
use Rattle.inverter_worker.specs.declared.state.State.{State}
use Rattle.inverter_worker.specs.declared.state.Step.{Step}
use Rattle.inverter_worker.specs.declared.state.Step.TheVariants.{Ready, Aiming, Over}
use Rattle.inverter_worker.specs.Table.{table}
use Rattle.inverter_worker.specs.Runs.{RunStep, sends_of}
use Rattle.inverter_worker.specs.Turns.{reading_in}
use Rattle.inverter_worker.proofs.Turns.{steps_left, clock_left, requests_left, Takes, taken, steps_same, clock_same, requests_same}
use Rattle.worker_turn.specs.Desks.{RollsNone}
use Rattle.worker_turn.specs.Acts.{Begins, Stands, held}

-- what a row uses up within a turn
pub record Uses (state : State) (came : Input) (next : State) (following : Output) : Type 0 where
  pub steps : 1 + steps_left next.skipped next.step ≤ steps_left state.skipped state.step
  pub clock : length (reading_in came) + clock_left next.step ≤ clock_left state.step
  pub requests : length (sends_of following) + requests_left next.step ≤ requests_left state.step

pub uses : (job : Job) (state next : State) (came : Input) (following : Output) → state.step ≢ Ready
    → table job state came ≡ Some (next, following) → Uses state came next following
uses job state next came following within is =
    let one : RunStep = record { state = state; input = came; output = following } in
    let takes : Takes state state.step came next following = taken job state one next is in
    record {
      steps = omega (arith, takes.steps, steps_same state.skipped state.step within);
      clock = omega (arith, takes.clock, clock_same state.step within);
      requests = omega (arith, takes.requests, requests_same state.step within);
    }

-- a turn begins with all of it, or is over
pub begins_stands : (job : Job) (step : Step) (output : Output) → Begins job step output → Stands job step output
begins_stands job Aiming output.Goal begins = tt
begins_stands job (Over end) output.End begins = tt
begins_stands job _ _ begins = absurd begins

pub begins_held : (job : Job) (step : Step) (output : Output) → Begins job step output → None ≡ held step
begins_held job Aiming output begins = refl
begins_held job (Over end) output begins = refl
begins_held job _ _ begins = absurd begins

pub begins_clock : (job : Job) (step : Step) (output : Output) → Begins job step output → 0 + clock_left step ≤ 6
begins_clock job Aiming output begins = omega arith
begins_clock job (Over end) output begins = omega arith
begins_clock job _ _ begins = absurd begins

pub begins_room : (job : Job) (step : Step) (put : Output) (len room : ℕ) → Begins job step put → (put ≡ output.Goal → len + 2 ≤ room)
    → 0 < requests_left step → len + requests_left step ≤ room
begins_room job Aiming output.Goal len room begins has some = has refl
begins_room job (Over end) output len room begins has some = absurd (omega arith)
begins_room job _ _ len room begins has some = absurd begins

-- what lasts twice lasts
pub lasting : (a b c : DeskTests) → TestsLast a b → TestsLast b c → TestsLast a c
lasting a b c first last = record {
  goals = λ made place inverter goal told. last.goals made place inverter goal (first.goals made place inverter goal told);
  full = λ full. last.full (first.full full);
  rolls = λ number book ended. last.rolls number book (first.rolls number book ended);
  lives = λ calls full. last.lives calls (first.lives calls full);
}

pub same : (tests : DeskTests) → TestsLast tests tests
same tests = record {
  goals = λ made place inverter goal told. told;
  full = λ full. full;
  rolls = λ number book ended. ended;
  lives = λ calls full. full;
}

-- and no book is rolled in between
pub staying : (a b c : DeskState) → RollsNone a b → RollsNone b c → RollsNone a c
staying a b c first last = record {
  front = omega (arith, first.front, last.front);
  inverters = last.inverters ∙ first.inverters;
  rolls = last.rolls ∙ first.rolls;
}

pub still : (desk : DeskState) → RollsNone desk desk
still desk = record { front = omega arith; inverters = refl; rolls = refl }
