-- The inverter that a command names, in the site file that it reads.
use Rattle.std.specs.Prelude.{◌≡◌, ℕ, ◌<◌, ◌≤◌, ◌⊎◌, List, Some, IfSome, length, slice_get}
use Rattle.plant_book.specs.Site.{inverters}
use Rattle.site_config.specs.SiteFile.{SiteFileRecord, IsSiteFile}
use Rattle.commission_run.specs.declared.job.Job.{Job}
use Rattle.command_io.specs.declared.ended.Ended.{Ended}
use Rattle.command_io.specs.declared.ended.Ended.TheVariants as ends
use Rattle.command_io.specs.declared.live_fault.LiveFault.TheVariants as faults
use Rattle.stream_io.specs.Streams.{Change, Fails}
use Rattle.command_io.specs.Site.{site_limit, ReadsSite, FindsNoSite, RefusesBadSite}

-- the inverter of this number in the site file, and where it is reached
pub record IsJob (file : SiteFileRecord) (number : ℕ) (job : Job) : Type 0 where
  pub is_there : number < inverters file.site
  pub inverter : job.inverter ≡ number
  pub unit : slice_get file.site.units number ≡ Some job.unit
  pub port : slice_get file.ports number ≡ Some job.port
  pub rules : job.rules ≡ file.site.rules
  pub wait : job.wait ≡ file.wait

-- a site file was read that has the inverter
pub record FindsInverter (number : ℕ) (job : Job) (read : List ℕ) (site : Change) : Type 0 where
  pub file : SiteFileRecord
  pub reads : ReadsSite file read site
  pub is_job : IsJob file number job

-- How a command ends that was given no such inverter: it was given no site file, or one that has none of this
-- number.
pub data FindsNoInverter (number : ℕ) (read : List ℕ) (site : Change) (ended : Ended) : Type 0 where
  no_site : FindsNoSite ended read site → FindsNoInverter number read site ended
  no_inverter : (file : SiteFileRecord) → ReadsSite file read site → inverters file.site ≤ number
      → ended ≡ ends.Refused (faults.NoSuchInverter (inverters file.site))
      → FindsNoInverter number read site ended

-- the bytes are a site file that lacks the inverter of this number: it has so many
abbrev pub LacksInverter : (number count : ℕ) → (bytes : List ℕ) → Type 0
LacksInverter number count bytes = (file : SiteFileRecord) × IsSiteFile bytes file
    × (count ≡ inverters file.site) × (count ≤ number)

-- the bytes are a site file that has the inverter of this number, and this is it
abbrev pub HasInverter : (number : ℕ) → Job → (bytes : List ℕ) → Type 0
HasInverter number job bytes = (file : SiteFileRecord) × IsSiteFile bytes file × IsJob file number job

-- Which end comes where the bytes of the source are no site file, or one that lacks the inverter of this number, where
-- the source doesn't fail and memory doesn't run out.
pub record RefusesNoInverter (number : ℕ) (ended : Ended) (site : Change) : Type 0 where
  pub lacking : IfSome site.old (λ bytes. length bytes ≤ site_limit
      → (file : SiteFileRecord) → IsSiteFile bytes file → inverters file.site ≤ number → (Fails site → ⊥)
      → (ended ≡ ends.Refused (faults.NoSuchInverter (inverters file.site))) ⊎ (ended ≡ ends.NoMemory))
  pub bad_site : RefusesBadSite ended site
