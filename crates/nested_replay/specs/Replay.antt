-- What an input with buses is replayed as, and why it isn't.
use Rattle.std.specs.Prelude.{◌≡◌, ℕ, ◌+◌, ◌^◌, ◌<◌, List, [], ◌++◌, map, Option, None, Some}
use Rattle.plant_book.specs.declared.call.Call.{Call}
use Rattle.plant_book.specs.Answered.{IsOpenable, IsBook}
use Rattle.plant_ledger.specs.declared.opening.OpenFault.{OpenFault}
use Rattle.plant_ledger.specs.Opening.{open_fault}
use Rattle.plant_ledger.specs.Plant.{IsSound}
use Rattle.script_text.specs.declared.line.Line.TheVariants as lines
use Rattle.script_text.specs.declared.fault.ScriptFault.{ScriptFault}
use Rattle.script_text.specs.declared.fault.ScriptFault.TheVariants as readings
use Rattle.busbars.specs.declared.bus.BusFault.{BusFault}
use Rattle.busbars.specs.Buses.{EachFits, IsFirstFault}
use Rattle.busbars.specs.Caps.{HoldsUnderCaps}
use Rattle.nested_replay.specs.declared.replay.NestedFault.{NestedFault}
use Rattle.nested_replay.specs.declared.replay.NestedFault.TheVariants as faults
use Rattle.nested_replay.specs.Nested.{NestedRecord, IsNested, IsFirstBadNested, HasNoBadNested}
use Rattle.nested_replay.specs.Played.{Deed, Plays, book_of, nested_text}

-- This is the text of what was done of the buses and the script that the bytes spell, up to where the book was full.
-- At every moment the life is one of right replies, safe as a plant's is, and what the inverters of a bus hold is at
-- most its cap.
pub record IsNestedReplay (bytes : List ℕ) (full : Option ℕ) (text : List ℕ) : Type 0 where
  pub nested : NestedRecord
  pub is_nested : IsNested bytes nested
  pub openable : IsOpenable nested.script.site
  pub fit : EachFits nested.script.site [] nested.buses
  pub calls : List Call
  pub lines : nested.script.lines ≡ map (λ call. lines.One call) calls
  pub deeds : List Deed
  pub plays : Plays nested.buses (book_of nested.script.site nested.script.start []) calls deeds full
  pub life : (first later : List Deed) → deeds ≡ first ++ later
      → IsBook (book_of nested.script.site nested.script.start first)
  pub sound : (first later : List Deed) → deeds ≡ first ++ later
      → IsSound (book_of nested.script.site nested.script.start first)
  pub holds : (first later : List Deed) → deeds ≡ first ++ later
      → HoldsUnderCaps nested.buses (book_of nested.script.site nested.script.start first)
  pub text_is : text ≡ nested_text nested.buses nested.script.site nested.script.start deeds

-- no book is opened of the site of the script
pub record IsSiteRefused (bytes : List ℕ) (fault : OpenFault) : Type 0 where
  pub nested : NestedRecord
  pub is_nested : IsNested bytes nested
  pub refused : open_fault nested.script.site ≡ Some fault

-- a book is opened of the site, but not with these buses
pub record IsBusRefused (bytes : List ℕ) (fault : BusFault) : Type 0 where
  pub nested : NestedRecord
  pub is_nested : IsNested bytes nested
  pub openable : open_fault nested.script.site ≡ None
  pub refused : IsFirstFault nested.script.site nested.buses fault

-- Why an input isn't replayed: by its first bad line, then by its site, then by its buses. Want of memory is told only
-- where the input has no bad line and its site is refused for nothing.
abbrev pub Explains : NestedFault → List ℕ → Type 0
Explains (faults.BadLine line kind) bytes = IsFirstBadNested bytes line kind
Explains (faults.BadSite fault) bytes = IsSiteRefused bytes fault
Explains (faults.BadBus fault) bytes = IsBusRefused bytes fault
Explains faults.NoMemory bytes =
    HasNoBadNested bytes × ((fault : OpenFault) → IsSiteRefused bytes fault → ⊥)

-- why an input that was judged without taking memory isn't one: its first bad line
abbrev pub IsBadNested : NestedFault → List ℕ → Type 0
IsBadNested (faults.BadLine line kind) bytes = IsFirstBadNested bytes line kind
IsBadNested (faults.BadSite fault) bytes = ⊥
IsBadNested (faults.BadBus fault) bytes = ⊥
IsBadNested faults.NoMemory bytes = ⊥

-- the fault of a script behind so many rows, and its number fits 32 bits
abbrev pub moved_fault : ScriptFault → ℕ → NestedFault
moved_fault (readings.BadLine line kind) rows = faults.BadLine (rows + line) kind
moved_fault readings.NoMemory rows = faults.NoMemory

abbrev pub FitsBehind : ScriptFault → ℕ → Type 0
FitsBehind (readings.BadLine line kind) rows = rows + line < 2 ^ 32
FitsBehind readings.NoMemory rows = Unit {0}
