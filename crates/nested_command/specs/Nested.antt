-- What `nested` writes, how it ends, and which end comes.
use Rattle.std.specs.Prelude.{◌≡◌, ℕ, List, [], ◌++◌, Option}
use Rattle.plant_book.specs.Site.{SiteRecord}
use Rattle.plant_book.specs.Answered.{IsBook}
use Rattle.plant_ledger.specs.Plant.{IsSound}
use Rattle.site_config.specs.declared.fault.SiteFault.{SiteFault}
use Rattle.busbars.specs.declared.bus.Bus as bus
use Rattle.busbars.specs.Buses.{EachFits}
use Rattle.busbars.specs.Caps.{HoldsUnderCaps}
use Rattle.nested_replay.specs.declared.replay.NestedFault.{NestedFault}
use Rattle.nested_replay.specs.declared.replay.NestedFault.TheVariants as faults
use Rattle.nested_replay.specs.Nested.{IsFirstBadNested}
use Rattle.nested_replay.specs.Played.{Deed, book_of, nested_text}
use Rattle.nested_replay.specs.Replay.{IsNestedReplay, IsSiteRefused, IsBusRefused}
use Rattle.command_io.specs.declared.ended.Ended.{Ended}
use Rattle.command_io.specs.declared.ended.Ended.TheVariants as ends
use Rattle.stream_io.specs.Streams.{Change}
use Rattle.script_command.specs.Ends.{site_end, HasSiteFault, IsScriptDue, IsScriptEnd}

-- the end where an input with buses isn't replayed
abbrev pub fault_end : NestedFault → Ended
fault_end (faults.BadLine line kind) = ends.BadLine line kind
fault_end (faults.BadSite fault) = site_end fault
fault_end (faults.BadBus fault) = ends.BadBus fault
fault_end faults.NoMemory = ends.NoMemory

-- no book is opened of the site of the script that the bytes spell
abbrev pub HasBadSite : List ℕ → SiteFault → Type 0
HasBadSite bytes fault = HasSiteFault (IsSiteRefused bytes) fault

-- how an input with buses is refused: by its first bad line, by its site, or by its first bad bus
abbrev pub RefusesNested : List ℕ → Ended → Type 0
RefusesNested bytes (ends.BadLine line kind) = IsFirstBadNested bytes line kind
RefusesNested bytes (ends.BadSite fault) = HasBadSite bytes fault
RefusesNested bytes (ends.BadBus fault) = IsBusRefused bytes fault
RefusesNested bytes _ = ⊥

-- the text of what was done of the input that the bytes spell, to its end or up to where the book was full
abbrev pub IsNestedText : List ℕ → List ℕ → Type 0
IsNestedText bytes text = (full : Option ℕ) × IsNestedReplay bytes full text

-- The life whose text it is is one of right replies, safe as a plant's is, and what the inverters of each bus hold is at
-- most its cap, at every moment.
pub record TellsSafeLife (text : List ℕ) : Type 0 where
  pub buses : List bus.Bus
  pub site : SiteRecord
  pub start : ℕ
  pub deeds : List Deed
  pub text_is : text ≡ nested_text buses site start deeds
  pub fit : EachFits site [] buses
  pub life : (first later : List Deed) → deeds ≡ first ++ later → IsBook (book_of site start first)
  pub sound : (first later : List Deed) → deeds ≡ first ++ later → IsSound (book_of site start first)
  pub holds : (first later : List Deed) → deeds ≡ first ++ later → HoldsUnderCaps buses (book_of site start first)

-- The ends of `nested`, each with what it says of the bytes that were read. It has no others.
abbrev pub IsNestedEnd : Ended → List ℕ → Change → Change → Type 0
IsNestedEnd ended read input output = IsScriptEnd IsNestedReplay RefusesNested ended read input output

-- Which end comes where neither the input nor the output fails, and memory doesn't run out.
abbrev pub IsNestedDue : Ended → (input output : Change) → Type 0
IsNestedDue ended input output = IsScriptDue IsNestedReplay RefusesNested ended input output
