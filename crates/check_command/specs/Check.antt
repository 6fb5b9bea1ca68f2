-- What `check` writes, how it ends, and which end comes.
use Rattle.std.specs.Prelude.{◌≡◌, ℕ, ◌≤◌, ◌⊎◌, List, IfSome, length}
use Rattle.site_config.specs.SiteFile.{SiteFileRecord, IsSiteFile}
use Rattle.site_config.specs.Summary.{summary}
use Rattle.command_io.specs.declared.ended.Ended.{Ended}
use Rattle.command_io.specs.declared.ended.Ended.TheVariants as ends
use Rattle.stream_io.specs.Streams.{Change, Fails, ReadsWhole, GainsText, GainsFront, GainsNothing}
use Rattle.command_io.specs.Site.{site_limit, FindsNoSite, RefusesBadSite}
use Rattle.command_io.specs.Ends.{End}

-- the bytes are a site file, and this text is its summary
pub record IsCheck (bytes text : List ℕ) : Type 0 where
  pub file : SiteFileRecord
  pub is_file : IsSiteFile bytes file
  pub text_is : text ≡ summary file

-- The ends of `check`, each with what it says of the bytes that were read. It has no others.
abbrev pub IsCheckEnd : Ended → List ℕ → Change → Change → Type 0
IsCheckEnd ends.Done read input output =
    End (Unit {0}) (ReadsWhole site_limit read input) (GainsText (IsCheck read) output)
IsCheckEnd ends.WriteFault read input output =
    End (Fails output) (ReadsWhole site_limit read input) (GainsFront (IsCheck read) output)
IsCheckEnd ended read input output = FindsNoSite ended read input × GainsNothing output

-- Which end comes where neither the input nor the output fails, and memory doesn't run out: a site file is checked,
-- and any other is refused.
pub record IsCheckDue (ended : Ended) (input output : Change) : Type 0 where
  pub complete : IfSome input.old (λ bytes. length bytes ≤ site_limit → (file : SiteFileRecord) → IsSiteFile bytes file
      → (Fails input → ⊥) → (Fails output → ⊥) → (ended ≡ ends.Done) ⊎ (ended ≡ ends.NoMemory))
  pub bad_site : RefusesBadSite ended input
