-- The parts of calls and entries, and the last moment of a book.
use Rattle.std.specs.Prelude.{ℕ, List, [], ◌∷◌, max, Option, Some, None}
use Rattle.plant_book.specs.declared.call.Call.{Call}
use Rattle.plant_book.specs.declared.call.Call.TheVariants as calls
use Rattle.plant_book.specs.declared.book.Entry.{Entry}

-- the moment of a call
abbrev pub moment : Call → ℕ
moment (calls.Link at inverter) = at
moment (calls.Ask at inverter raw) = at
moment (calls.Read at inverter) = at
moment (calls.Saw at inverter number raw) = at
moment (calls.Back at inverter link number) = at
moment (calls.Want at inverter mw) = at
moment (calls.Tick at) = at
moment (calls.Stop at) = at
moment (calls.Cap at mw) = at

-- the same call at another moment
abbrev pub at_moment : ℕ → Call → Call
at_moment new (calls.Link at inverter) = calls.Link new inverter
at_moment new (calls.Ask at inverter raw) = calls.Ask new inverter raw
at_moment new (calls.Read at inverter) = calls.Read new inverter
at_moment new (calls.Saw at inverter number raw) = calls.Saw new inverter number raw
at_moment new (calls.Back at inverter link number) = calls.Back new inverter link number
at_moment new (calls.Want at inverter mw) = calls.Want new inverter mw
at_moment new (calls.Tick at) = calls.Tick new
at_moment new (calls.Stop at) = calls.Stop new
at_moment new (calls.Cap at mw) = calls.Cap new mw

-- the inverter that a call names
abbrev pub named : Call → Option ℕ
named (calls.Link at inverter) = Some inverter
named (calls.Ask at inverter raw) = Some inverter
named (calls.Read at inverter) = Some inverter
named (calls.Saw at inverter number raw) = Some inverter
named (calls.Back at inverter link number) = Some inverter
named (calls.Want at inverter mw) = Some inverter
named (calls.Tick at) = None
named (calls.Stop at) = None
named (calls.Cap at mw) = None

-- the last moment of a book: that of its last entry, or its start
unfoldable pub latest : ℕ → List Entry → ℕ
latest start [] = start
latest start (entry ∷ entries) = latest (moment entry.call) entries

-- a call as it is entered: with the greater of its own moment and the last moment
abbrev pub entered : ℕ → List Entry → Call → Call
entered start entries call = at_moment (max (moment call) (latest start entries)) call
