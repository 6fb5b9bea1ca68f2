-- How the program ends: how each end is shown, and what an end says.
use Rattle.std.specs.Prelude.{ℕ, List, ◌++◌, Option, Some, None, codes}
use Rattle.std.specs.Fmt.{decimal}
use Rattle.script_text.specs.declared.line.LineKind.{LineKind}
use Rattle.script_text.specs.declared.line.LineKind.TheVariants as kinds
use Rattle.busbars.specs.declared.bus.BusCause.{BusCause}
use Rattle.busbars.specs.declared.bus.BusCause.TheVariants as causes
use Rattle.command_io.specs.declared.ended.Ended.{Ended}
use Rattle.command_io.specs.declared.ended.Ended.TheVariants as ends

-- the status of an end
abbrev pub status_of : Ended → ℕ
status_of ends.Done = 0
status_of ends.BadWords = 2
status_of (ends.BadLine line kind) = 3
status_of (ends.BadSite fault) = 4
status_of (ends.BookFull calls) = 5
status_of ends.ReadFault = 6
status_of ends.WriteFault = 7
status_of ends.NoMemory = 8
status_of (ends.TooLong limit) = 9
status_of (ends.Refused fault) = 10
status_of (ends.BadBus fault) = 11

abbrev pub kind_text : LineKind → List ℕ
kind_text kinds.Form = codes "form"
kind_text kinds.Inverter = codes "inverter"
kind_text kinds.Time = codes "time"
kind_text kinds.Value = codes "value"

-- why the bus of this place is refused
abbrev pub bus_text : ℕ → BusCause → List ℕ
bus_text bus causes.Range = codes "badbus " ++ decimal bus ++ codes " range"
bus_text bus causes.Crossing = codes "badbus " ++ decimal bus ++ codes " crossing"
bus_text bus (causes.FloorsOver sum) = codes "badbus " ++ decimal bus ++ codes " floorsover " ++ decimal sum

-- the line on standard error; those of a bad site and of a refusal aren't said here
abbrev pub end_text : Ended → Option (List ℕ)
end_text ends.Done = Some (codes "done")
end_text ends.BadWords = Some (codes "bad words")
end_text (ends.BadLine line kind) = Some (codes "line " ++ decimal line ++ codes ": " ++ kind_text kind)
end_text (ends.BadSite fault) = None
end_text (ends.BookFull calls) = Some (codes "book full: " ++ decimal calls)
end_text ends.ReadFault = Some (codes "read fault")
end_text ends.WriteFault = Some (codes "write fault")
end_text ends.NoMemory = Some (codes "no memory")
end_text (ends.TooLong limit) = Some (codes "too long: " ++ decimal limit)
end_text (ends.Refused fault) = None
end_text (ends.BadBus fault) = Some (bus_text fault.bus fault.cause)

-- what an end says: why it came, what was read of the input, and what the output gained
pub record End (Cause Read Gained : Type 0) : Type 0 where
  pub cause : Cause
  pub read : Read
  pub gained : Gained
