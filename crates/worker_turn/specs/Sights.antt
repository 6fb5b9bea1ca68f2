-- What the call that enters a read-back stands on.
use Rattle.std.specs.Prelude.{◌≡◌, ℕ, List, [], ◌∷◌, ◌++◌}
use Rattle.mbap_frames.specs.declared.frame.Frame.{Frame}
use Rattle.plant_book.specs.declared.call.Call.TheVariants as call
use Rattle.plant_book.specs.declared.call.Read as reads
use Rattle.readback.specs.declared.judging.Judged.TheVariants.{Shows}
use Rattle.readback.specs.Judging.{judgement}
use Rattle.inverter_worker.specs.declared.job.Job.{Job}
use Rattle.inverter_worker.specs.declared.input.Input.TheVariants as input
use Rattle.inverter_worker.specs.declared.output.Asked.TheVariants as asked
use Rattle.inverter_worker.specs.declared.output.Output.{Output}
use Rattle.inverter_worker.specs.declared.output.Output.TheVariants as output
use Rattle.inverter_worker.specs.Runs.{RunStep}
use Rattle.worker_turn.specs.Requests.{IsStep, Awaits}

-- whether an output is a call that enters what a read-back showed
abbrev pub IsSight : Output → Type 0
IsSight (output.Call (call.Saw at inverter number raw)) = Unit {0}
IsSight put = ⊥

-- A run so far ends with a call that enters what a read-back showed. It waited for the answer to a read of
-- this number; then a frame came that is judged to show this raw percentage for that read; then the time
-- came, and the call was made.
pub record IsSeen (job : Job) (sofar : List RunStep) (at inverter number raw : ℕ) : Type 0 where
  pub waited : List RunStep
  pub showed : RunStep
  pub called : RunStep
  pub is : sofar ≡ waited ++ showed ∷ called ∷ []
  pub read : reads.Read
  pub awaits : Awaits (asked.Read read) waited
  pub frame : Frame
  pub is_showed : IsStep (input.Frame frame) output.Now showed
  pub shows : judgement read job.unit job.port job.rules frame ≡ Shows raw
  pub is_called : IsStep (input.Time at) (output.Call (call.Saw at inverter number raw)) called
  pub same_number : number ≡ read.number
  pub own : inverter ≡ job.inverter
