-- What a worker holds at each step of a turn. No promise to a caller names this.
use Rattle.std.specs.Prelude.{◌≡◌, ◌≤◌, Bool, true, false, Option, Some, None}
use Rattle.world_traits.specs.Clocks.{moment_max}
use Rattle.plant_book.specs.declared.call.Call.{Call}
use Rattle.plant_book.specs.declared.call.Call.TheVariants as call
use Rattle.plant_book.specs.declared.call.Write as writes
use Rattle.plant_ledger.specs.Opening.{ticket_for}
use Rattle.inverter_worker.specs.declared.job.Job.{Job}
use Rattle.inverter_worker.specs.declared.input.Input.{Input}
use Rattle.inverter_worker.specs.declared.input.Input.TheVariants as input
use Rattle.inverter_worker.specs.declared.output.Output.{Output}
use Rattle.inverter_worker.specs.declared.output.Output.TheVariants as output
use Rattle.inverter_worker.specs.declared.output.Asked.TheVariants as asked
use Rattle.inverter_worker.specs.declared.state.Step.{Step}
use Rattle.inverter_worker.specs.declared.state.Step.TheVariants.{Ready, Aiming, Dialing, LinkTiming, Linking, Timing, Asking, Window, ReleaseTiming, Sending, WaitWrite, ReadTiming, ReadAsking, ReadWindow, SendingRead, WaitRead, SawTiming, SawAsking, Closing, UnfitClosing, Resting, Over}

-- whether an output is nothing to be done
abbrev pub is_last : Output → Bool
is_last output.End = true
is_last output.Nothing = true
is_last _ = false

-- a call that a worker makes: at a moment, for its own inverter
abbrev pub IsOwnCall : Job → Call → Type 0
IsOwnCall job (call.Link at inverter) = (at ≤ moment_max) × (inverter ≡ job.inverter)
IsOwnCall job (call.Ask at inverter raw) = (at ≤ moment_max) × (inverter ≡ job.inverter)
IsOwnCall job (call.Read at inverter) = (at ≤ moment_max) × (inverter ≡ job.inverter)
IsOwnCall job (call.Saw at inverter number raw) = (at ≤ moment_max) × (inverter ≡ job.inverter)
IsOwnCall job _ = ⊥

-- an output that can be done with this ticket in hand
abbrev pub IsDoable : Job → Output → Option writes.Write → Type 0
IsDoable job output.End ticket = ⊥
IsDoable job output.Nothing ticket = ⊥
IsDoable job (output.Call call) ticket = IsOwnCall job call
IsDoable job (output.Release write at) ticket =
    (ticket ≡ Some write) × (write.inverter ≡ job.inverter) × (at ≤ moment_max)
IsDoable job (output.Send (asked.Write write) clock) ticket = ticket ≡ Some write
IsDoable job _ ticket = Unit {0}

-- the ticket in hand after that
abbrev pub ticket_after : Output → Input → Option writes.Write → Option writes.Write
ticket_after (output.Call call) (input.Reply reply) ticket = ticket_for reply
ticket_after (output.Release write at) came ticket = None
ticket_after (output.Send request clock) came ticket = None
ticket_after output came ticket = ticket

-- the ticket in hand at a step
abbrev pub held : Step → Option writes.Write
held (Window write) = Some write
held (ReleaseTiming write) = Some write
held (Sending write) = Some write
held step = None

-- The output with which a step is entered.
abbrev pub Stands : Job → Step → Output → Type 0
Stands job Ready output.Nothing = Unit {0}
Stands job (Over end) output.End = Unit {0}
Stands job Aiming output.Goal = Unit {0}
Stands job (Dialing raw) output.Dial = Unit {0}
Stands job (LinkTiming raw) output.Now = Unit {0}
Stands job (Linking raw) (output.Call (call.Link at inverter)) = (at ≤ moment_max) × (inverter ≡ job.inverter)
Stands job (Timing raw) output.Now = Unit {0}
Stands job Asking (output.Call (call.Ask at inverter raw)) = (at ≤ moment_max) × (inverter ≡ job.inverter)
Stands job (Window write) output.Now = write.inverter ≡ job.inverter
Stands job (ReleaseTiming write) (output.Release back at) =
    (back ≡ write) × (write.inverter ≡ job.inverter) × (at ≤ moment_max)
Stands job (Sending write) (output.Send (asked.Write sent) clock) = sent ≡ write
Stands job (WaitWrite write) output.Receive = Unit {0}
Stands job ReadTiming output.Now = Unit {0}
Stands job ReadAsking (output.Call (call.Read at inverter)) = (at ≤ moment_max) × (inverter ≡ job.inverter)
Stands job (ReadWindow read) output.Now = Unit {0}
Stands job (SendingRead read) (output.Send (asked.Read sent) clock) = Unit {0}
Stands job (WaitRead read) output.Receive = Unit {0}
Stands job (SawTiming read raw) output.Now = Unit {0}
Stands job SawAsking (output.Call (call.Saw at inverter number raw)) =
    (at ≤ moment_max) × (inverter ≡ job.inverter)
Stands job Closing output.HangUp = Unit {0}
Stands job (UnfitClosing point wanted found) output.HangUp = Unit {0}
Stands job Resting (output.Rest ms) = Unit {0}
Stands job step output = ⊥

-- the first output of a turn
abbrev pub Begins : Job → Step → Output → Type 0
Begins job Aiming output.Goal = Unit {0}
Begins job (Over end) output.End = Unit {0}
Begins job step output = ⊥
