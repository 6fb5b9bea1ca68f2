-- The site file as a command reads it, and how a command ends that finds none.
use Rattle.std.specs.Prelude.{◌≡◌, ℕ, ◌<◌, ◌≤◌, ◌⊎◌, List, IfSome, length}
use Rattle.std.specs.Io.KnownBytes.{IsAtEnd}
use Rattle.site_config.specs.declared.fault.SiteFault.{SiteFault}
use Rattle.site_config.specs.SiteFile.{SiteFileRecord, IsSiteFile, IsRefused}
use Rattle.command_io.specs.declared.ended.Ended.{Ended}
use Rattle.command_io.specs.declared.ended.Ended.TheVariants as ends
use Rattle.stream_io.specs.Streams.{Change, Fails, Works, ReadsFront, ReadsWhole, ReadsBeyond}

-- how many bytes a site file has at most
abbrev pub site_limit : ℕ
site_limit = 1048576

-- these bytes were read, they are all of the input, and they are this site file
pub record ReadsSite (file : SiteFileRecord) (read : List ℕ) (input : Change) : Type 0 where
  pub is_file : IsSiteFile read file
  pub whole : ReadsWhole site_limit read input

-- how a command ends that was given no site file, and what it read
abbrev pub FindsNoSite : Ended → List ℕ → Change → Type 0
FindsNoSite (ends.BadSite fault) read input = IsRefused read fault × ReadsWhole site_limit read input
FindsNoSite ends.ReadFault read input = Fails input × ReadsFront site_limit read input
FindsNoSite ends.NoMemory read input = Works input × ReadsFront site_limit read input
FindsNoSite (ends.TooLong limit) read input = (limit ≡ site_limit) × ReadsBeyond site_limit read input
FindsNoSite _ read input = ⊥

-- what an end says of the site file, by the bytes that its source told
pub record HasSiteCause (ended : Ended) (site : Change) : Type 0 where
  pub read : ended ≡ ends.Done → IsAtEnd site.new
  pub bad_site : (fault : SiteFault) → ended ≡ ends.BadSite fault → IfSome site.old (λ bytes. IsRefused bytes fault)
  pub too_long : (limit : ℕ) → ended ≡ ends.TooLong limit
      → (limit ≡ site_limit) × IfSome site.old (λ bytes. limit < length bytes)
  pub read_fault : ended ≡ ends.ReadFault → Fails site

-- Which end a bad site file has, where its source doesn't fail and memory doesn't run out: one with a fault is refused
-- by its first, and one that is too long by its limit.
pub record RefusesBadSite (ended : Ended) (site : Change) : Type 0 where
  pub refused : IfSome site.old (λ bytes. length bytes ≤ site_limit
      → (fault : SiteFault) → IsRefused bytes fault → (Fails site → ⊥)
      → (ended ≡ ends.BadSite fault) ⊎ (ended ≡ ends.NoMemory))
  pub beyond : IfSome site.old (λ bytes. site_limit < length bytes → (Fails site → ⊥)
      → (ended ≡ ends.TooLong site_limit) ⊎ (ended ≡ ends.NoMemory))
