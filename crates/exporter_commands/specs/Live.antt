-- What a task comes to: the record of its command. No promise to a caller names this.
use Rattle.std.specs.Prelude.{ℕ, Bool, List}
use Rattle.stream_io.specs.Streams.{Change}
use Rattle.command_io.specs.declared.ended.Ended.{Ended}
use Rattle.command_link.specs.Dialing.{Dialing}
use Rattle.commission_command.specs.Commission.{IsCommissionDue, IsCommissionEnd}
use Rattle.serve_command.specs.Serve.{IsServeDue, IsServeEnd}
use Rattle.exporter_commands.specs.declared.words.Task.{Task}
use Rattle.exporter_commands.specs.declared.words.Task.TheVariants as tasks

-- the ends of a task
abbrev pub IsTaskEnd : (ℕ → Bool) → Task → List ℕ → (site output : Change) → Dialing → Ended → Type 0
IsTaskEnd may_give (tasks.Commission inverter) read site output dialing ended =
    IsCommissionEnd inverter read site output dialing ended
IsTaskEnd may_give (tasks.Serve inverter turns) read site output dialing ended =
    IsServeEnd may_give inverter turns read site dialing ended

-- which of them comes
abbrev pub IsTaskDue : Task → (site output : Change) → Dialing → Ended → Type 0
IsTaskDue (tasks.Commission inverter) site output dialing ended = IsCommissionDue inverter site output dialing ended
IsTaskDue (tasks.Serve inverter turns) site output dialing ended = IsServeDue inverter ended site

-- a task that writes nothing
abbrev pub IsSilent : Task → Type 0
IsSilent (tasks.Commission inverter) = ⊥
IsSilent (tasks.Serve inverter turns) = Unit {0}
