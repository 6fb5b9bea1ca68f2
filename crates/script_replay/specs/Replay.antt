-- What a script is replayed as.
use Rattle.std.specs.Prelude.{◌≡◌, ℕ, List, ◌∷◌, ◌++◌, map, Option, Some, None}
use Rattle.plant_book.specs.declared.call.Call.{Call}
use Rattle.plant_book.specs.Site.{SiteRecord}
use Rattle.plant_book.specs.Answered.{IsOpenable}
use Rattle.plant_ledger.specs.declared.opening.OpenFault.{OpenFault}
use Rattle.plant_ledger.specs.Opening.{open_fault}
use Rattle.script_text.specs.declared.line.Line.{Line}
use Rattle.script_text.specs.declared.line.Line.TheVariants as lines
use Rattle.script_text.specs.declared.fault.ScriptFault.{ScriptFault}
use Rattle.script_text.specs.declared.fault.ScriptFault.TheVariants as readings
use Rattle.script_text.specs.Script.{ScriptRecord, IsScript, IsFirstBadLine, HasNoBadLine}
use Rattle.script_text.specs.Text.{Deed, deed_line, lives_text}
use Rattle.script_replay.specs.declared.replay.ReplayFault.{ReplayFault}
use Rattle.script_replay.specs.declared.replay.ReplayFault.TheVariants as faults
use Rattle.script_replay.specs.Chain.{first_chain, chain_behind, AreDone, IsSafeChain}

-- How far a script was replayed: to its end, or up to the first call line that found its book at its room, which
-- is as many calls.
abbrev pub Reaches : ScriptRecord → List Deed → Option ℕ → Type 0
Reaches script deeds None = map deed_line deeds ≡ script.lines
Reaches script deeds (Some calls) =
    (call : Call) × (more : List Line)
    × (script.lines ≡ map deed_line deeds ++ lines.One call ∷ more)
    × ((chain_behind (first_chain script.site script.start) deeds).calls ≡ script.site.room)
    × (calls ≡ script.site.room)

-- This is the text of the lives of the script that the bytes spell, up to where a book was full.
pub record IsReplay (bytes : List ℕ) (full : Option ℕ) (text : List ℕ) : Type 0 where
  pub script : ScriptRecord
  pub is_script : IsScript bytes script
  pub openable : IsOpenable script.site
  pub deeds : List Deed
  pub reaches : Reaches script deeds full
  pub done : AreDone (first_chain script.site script.start) deeds
  pub safe : IsSafeChain (chain_behind (first_chain script.site script.start) deeds)
  pub text_is : text ≡ lives_text script.site script.start deeds

-- no book is opened of the site of the script that the bytes spell
pub record IsRefused (bytes : List ℕ) (fault : OpenFault) : Type 0 where
  pub script : ScriptRecord
  pub is_script : IsScript bytes script
  pub refused : open_fault script.site ≡ Some fault

-- why no book is opened of a site: for want of memory only where the site is refused for nothing
abbrev pub RefusesSite : SiteRecord → ReplayFault → Type 0
RefusesSite site faults.NoMemory = open_fault site ≡ None
RefusesSite site (faults.BadLine line kind) = ⊥
RefusesSite site (faults.BadSite fault) = open_fault site ≡ Some fault

-- no script that the bytes spell has a site that is refused
abbrev pub HasNoBadSite : List ℕ → Type 0
HasNoBadSite bytes = (fault : OpenFault) → IsRefused bytes fault → ⊥

-- why a script isn't replayed: for want of memory only where it has no bad line, and its site is refused for nothing
abbrev pub Explains : ReplayFault → List ℕ → Type 0
Explains faults.NoMemory bytes = HasNoBadLine bytes × HasNoBadSite bytes
Explains (faults.BadLine line kind) bytes = IsFirstBadLine bytes line kind
Explains (faults.BadSite fault) bytes = IsRefused bytes fault

-- a script all of whose books have room for their calls
pub record HasRoom (bytes : List ℕ) : Type 0 where
  pub script : ScriptRecord
  pub is_script : IsScript bytes script
  pub openable : IsOpenable script.site
  pub deeds : List Deed
  pub all : map deed_line deeds ≡ script.lines
  pub done : AreDone (first_chain script.site script.start) deeds

-- the fault of reading a script as one of its replay
abbrev pub fault_of : ScriptFault → ReplayFault
fault_of (readings.BadLine line kind) = faults.BadLine line kind
fault_of readings.NoMemory = faults.NoMemory
