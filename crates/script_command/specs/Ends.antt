-- What a command writes that is given a script, how it ends, and which end comes: for every kind of script, by which
-- text its scripts have, and by which end the others are refused.
use Rattle.std.specs.Prelude.{◌≡◌, ℕ, ◌<◌, ◌≤◌, ◌⊎◌, List, Option, Some, None, IfSome, length}
use Rattle.plant_ledger.specs.declared.opening.OpenFault.{OpenFault}
use Rattle.plant_ledger.specs.declared.opening.OpenFault.TheVariants as openings
use Rattle.site_config.specs.declared.fault.SiteFault.{SiteFault}
use Rattle.site_config.specs.declared.fault.SiteFault.TheVariants as sites
use Rattle.command_io.specs.declared.ended.Ended.{Ended}
use Rattle.command_io.specs.declared.ended.Ended.TheVariants as ends
use Rattle.command_io.specs.Ends.{End}
use Rattle.stream_io.specs.Streams.{Change, Fails, Works, ReadsFront, ReadsWhole, ReadsBeyond}
use Rattle.stream_io.specs.Streams.{GainsText, GainsFront, GainsNothing}

-- how many bytes a script has at most
abbrev pub input_limit : ℕ
input_limit = 134217728

-- the end at a site of which no book is opened
abbrev pub site_end : OpenFault → Ended
site_end openings.NoInverter = ends.BadSite sites.NoInverter
site_end (openings.TooManyInverters inverters) = ends.BadSite (sites.TooManyInverters inverters)
site_end (openings.FloorsOverCap floors) = ends.BadSite (sites.FloorsOverCap floors)
site_end openings.NoMemory = ends.NoMemory

-- no book is opened of a site, for a cause that ends like this
abbrev pub HasSiteFault : (OpenFault → Type 0) → SiteFault → Type 0
HasSiteFault IsCause fault = (cause : OpenFault) × IsCause cause × (site_end cause ≡ ends.BadSite fault)

-- the end where a text was written, by the calls of the book that was full
abbrev pub written_end : Option ℕ → Ended
written_end None = ends.Done
written_end (Some calls) = ends.BookFull calls

-- how a command ends where the bytes have no text: they are refused, or memory ran out
abbrev pub HasNoText : (Ended → Type 0) → Ended → Type 0
HasNoText IsRefused ends.NoMemory = Unit {0}
HasNoText IsRefused (ends.BadLine line kind) = IsRefused (ends.BadLine line kind)
HasNoText IsRefused (ends.BadSite fault) = IsRefused (ends.BadSite fault)
HasNoText IsRefused (ends.BadBus fault) = IsRefused (ends.BadBus fault)
HasNoText IsRefused _ = ⊥

-- The ends of a command that is given a script, each with what it says of the bytes that were read. It has no others.
abbrev pub IsScriptEnd : (Text : List ℕ → Option ℕ → List ℕ → Type 0) (Refuses : List ℕ → Ended → Type 0)
    → Ended → List ℕ → Change → Change → Type 0
IsScriptEnd Text Refuses ends.Done read input output =
    End (Unit {0}) (ReadsWhole input_limit read input) (GainsText (Text read None) output)
IsScriptEnd Text Refuses (ends.BookFull calls) read input output =
    End (Unit {0}) (ReadsWhole input_limit read input) (GainsText (Text read (Some calls)) output)
IsScriptEnd Text Refuses (ends.BadLine line kind) read input output =
    End (Refuses read (ends.BadLine line kind)) (ReadsWhole input_limit read input) (GainsNothing output)
IsScriptEnd Text Refuses (ends.BadSite fault) read input output =
    End (Refuses read (ends.BadSite fault)) (ReadsWhole input_limit read input) (GainsNothing output)
IsScriptEnd Text Refuses (ends.BadBus fault) read input output =
    End (Refuses read (ends.BadBus fault)) (ReadsWhole input_limit read input) (GainsNothing output)
IsScriptEnd Text Refuses ends.ReadFault read input output =
    End (Fails input) (ReadsFront input_limit read input) (GainsNothing output)
IsScriptEnd Text Refuses ends.WriteFault read input output =
    End (Fails output) (ReadsWhole input_limit read input)
    (GainsFront (λ text. (full : Option ℕ) × Text read full text) output)
IsScriptEnd Text Refuses ends.NoMemory read input output =
    End (Works input) (ReadsFront input_limit read input) (GainsNothing output)
IsScriptEnd Text Refuses (ends.TooLong limit) read input output =
    End (limit ≡ input_limit) (ReadsBeyond input_limit read input) (GainsNothing output)
IsScriptEnd Text Refuses _ read input output = ⊥

-- the ends that come when all of the input was read
abbrev pub IsReadWhole : Ended → Type 0
IsReadWhole ends.ReadFault = ⊥
IsReadWhole ends.NoMemory = ⊥
IsReadWhole (ends.TooLong limit) = ⊥
IsReadWhole _ = Unit {0}

-- Which end comes where neither the input nor the output fails, and memory doesn't run out.
pub record IsScriptDue
    (Text : List ℕ → Option ℕ → List ℕ → Type 0) (Refuses : List ℕ → Ended → Type 0)
    (ended : Ended) (input output : Change) : Type 0 where
  -- the text of a script is written, up to where a book was full
  pub told : IfSome input.old (λ bytes. length bytes ≤ input_limit
      → (full : Option ℕ) (text : List ℕ) → Text bytes full text
      → (Fails input → ⊥) → (Fails output → ⊥) → (ended ≡ written_end full) ⊎ (ended ≡ ends.NoMemory))
  -- what is refused ends by an end that refuses it, and what is too long by its limit
  pub refused : IfSome input.old (λ bytes. length bytes ≤ input_limit
      → (refusal : Ended) → Refuses bytes refusal
      → (Fails input → ⊥) → Refuses bytes ended ⊎ (ended ≡ ends.NoMemory))
  pub beyond : IfSome input.old (λ bytes. input_limit < length bytes
      → (Fails input → ⊥) → (ended ≡ ends.TooLong input_limit) ⊎ (ended ≡ ends.NoMemory))
