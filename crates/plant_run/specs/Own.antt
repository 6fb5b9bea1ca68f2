-- What of a book is one inverter's, and the world that its worker sees of it.
use Rattle.std.specs.Prelude.{ℕ, Bool, false, ◌==◌, List, filter, Option}
use Rattle.std.specs.Option.{option_map_or}
use Rattle.world_traits.specs.Links.{Links}
use Rattle.plant_book.specs.declared.call.Call.{Call}
use Rattle.plant_book.specs.declared.call.Call.TheVariants as call
use Rattle.plant_book.specs.declared.book.Entry.{Entry}
use Rattle.plant_book.specs.Calls.{named}
use Rattle.plant_book.specs.Book.{BookRecord}
use Rattle.worker_turn.specs.Doing.{World, world_of}

-- whether a call is one that the worker of an inverter makes: it names the inverter, and is no Want
abbrev pub is_workers : (inverter : ℕ) → Call → Bool
is_workers inverter (call.Want at other mw) = false
is_workers inverter made = option_map_or (λ other. other == inverter) (named made) false

-- the entries of an inverter but for its Wants, in order
abbrev pub entries_of : (inverter : ℕ) → List Entry → List Entry
entries_of inverter entries = filter (λ entry. is_workers inverter entry.call) entries

-- What the worker of an inverter reaches: of the book its own entries, its dialer, and what it read of the clock.
abbrev pub own_world : (inverter : ℕ) → BookRecord → Option Links → (faults : ℕ) → (readings unread : List ℕ) → World
own_world inverter book links faults readings unread =
    world_of (entries_of inverter book.entries) links faults readings unread
