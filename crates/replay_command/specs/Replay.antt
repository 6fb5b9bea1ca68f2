-- What `replay` writes, how it ends, and which end comes.
use Rattle.std.specs.Prelude.{◌≡◌, ℕ, ◌<◌, ◌≤◌, ◌⊎◌, List, Option, Some, IfSome, length}
use Rattle.plant_book.specs.Site.{SiteRecord}
use Rattle.site_config.specs.declared.fault.SiteFault.{SiteFault}
use Rattle.script_text.specs.Script.{IsFirstBadLine}
use Rattle.script_text.specs.Text.{Deed, lives_text}
use Rattle.script_replay.specs.declared.replay.ReplayFault.{ReplayFault}
use Rattle.script_replay.specs.declared.replay.ReplayFault.TheVariants as faults
use Rattle.script_replay.specs.Chain.{first_chain, chain_behind, IsSafeChain}
use Rattle.script_replay.specs.Replay.{IsReplay, IsRefused, HasRoom}
use Rattle.script_text.specs.declared.line.LineKind.{LineKind}
use Rattle.command_io.specs.declared.ended.Ended.{Ended}
use Rattle.command_io.specs.declared.ended.Ended.TheVariants as ends
use Rattle.stream_io.specs.Streams.{Change, Fails}
use Rattle.script_command.specs.Ends.{input_limit, site_end, HasSiteFault, IsScriptEnd}

-- the end where a script isn't replayed
abbrev pub fault_end : ReplayFault → Ended
fault_end (faults.BadLine line kind) = ends.BadLine line kind
fault_end (faults.BadSite fault) = site_end fault
fault_end faults.NoMemory = ends.NoMemory

-- no book is opened of the site of the script that the bytes spell
abbrev pub HasBadSite : List ℕ → SiteFault → Type 0
HasBadSite bytes fault = HasSiteFault (IsRefused bytes) fault

-- how a script is refused: by its first bad line, or by its site
abbrev pub RefusesScript : List ℕ → Ended → Type 0
RefusesScript bytes (ends.BadLine line kind) = IsFirstBadLine bytes line kind
RefusesScript bytes (ends.BadSite fault) = HasBadSite bytes fault
RefusesScript bytes _ = ⊥

-- the text of the lives of the script that the bytes spell, to its end or up to where a book was full
abbrev pub IsReplayText : List ℕ → List ℕ → Type 0
IsReplayText bytes text = (full : Option ℕ) × IsReplay bytes full text

-- the lives whose text it is are those of a plant that was commissioned, and safe at every moment
abbrev pub TellsSafeLives : List ℕ → Type 0
TellsSafeLives text =
    (site : SiteRecord) × (start : ℕ) × (deeds : List Deed)
    × (text ≡ lives_text site start deeds) × IsSafeChain (chain_behind (first_chain site start) deeds)

-- The ends of `replay`, each with what it says of the bytes that were read. It has no others.
abbrev pub IsReplayEnd : Ended → List ℕ → Change → Change → Type 0
IsReplayEnd ended read input output = IsScriptEnd IsReplay RefusesScript ended read input output

-- Which end comes where neither the input nor the output fails, and memory doesn't run out.
pub record IsReplayDue (ended : Ended) (input output : Change) : Type 0 where
  -- a script without a fault whose books have room is replayed to its end
  pub complete : IfSome input.old (λ bytes. length bytes ≤ input_limit → HasRoom bytes
      → (Fails input → ⊥) → (Fails output → ⊥) → (ended ≡ ends.Done) ⊎ (ended ≡ ends.NoMemory))
  -- one whose book gets full is replayed up to there
  pub full : IfSome input.old (λ bytes. length bytes ≤ input_limit
      → (calls : ℕ) (text : List ℕ) → IsReplay bytes (Some calls) text
      → (Fails input → ⊥) → (Fails output → ⊥) → (ended ≡ ends.BookFull calls) ⊎ (ended ≡ ends.NoMemory))
  -- any other is refused: by its first bad line, by its site, or by its length
  pub refused_line : IfSome input.old (λ bytes. length bytes ≤ input_limit
      → (line : ℕ) (kind : LineKind) → IsFirstBadLine bytes line kind
      → (Fails input → ⊥) → (ended ≡ ends.BadLine line kind) ⊎ (ended ≡ ends.NoMemory))
  pub refused_site : IfSome input.old (λ bytes. length bytes ≤ input_limit
      → (fault : SiteFault) → HasBadSite bytes fault
      → (Fails input → ⊥) → (ended ≡ ends.BadSite fault) ⊎ (ended ≡ ends.NoMemory))
  pub beyond : IfSome input.old (λ bytes. input_limit < length bytes
      → (Fails input → ⊥) → (ended ≡ ends.TooLong input_limit) ⊎ (ended ≡ ends.NoMemory))
