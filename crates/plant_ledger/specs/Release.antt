-- The call by which a ticket's write is given back.
use Rattle.std.specs.Prelude.{ℕ}
use Rattle.plant_book.specs.declared.call.Call.{Call}
use Rattle.plant_book.specs.declared.call.Call.TheVariants as calls
use Rattle.plant_book.specs.declared.call.Write as writes

-- the Back of a write at a moment
abbrev pub back_of : writes.Write → ℕ → Call
back_of write at = calls.Back at write.inverter write.link write.number
