-- What the bytes of a site file stand for: the file, or the first fault.
use Rattle.std.specs.Prelude.{◌≡◌, ℕ, ◌≤◌, nat_lt, if◌then◌else◌, List, [], ◌∷◌, length, map, Option, Some, None, IsUtf8}
use Rattle.std.specs.Int.{div_ceil}
use Rattle.std.specs.List.{All}
use Rattle.toml.specs.Data.{Members}
use Rattle.toml.specs.Errors.{IsBlank}
use Rattle.toml.specs.Parse.{parse_document}
use Rattle.limiter_num.specs.Timers.{reach}
use Rattle.limiter_num.specs.declared.rules.Rules.{Rules}
use Rattle.plant_book.specs.declared.site.Unit as unit
use Rattle.plant_book.specs.Site.{SiteRecord, inverters, floors}
use Rattle.plant_book.specs.Port.{PortRecord}
use Rattle.site_config.specs.declared.key.Key.TheVariants as keys
use Rattle.site_config.specs.declared.points.Points as points
use Rattle.site_config.specs.declared.fault.SiteFault.{SiteFault}
use Rattle.site_config.specs.declared.fault.SiteFault.TheVariants.{NotToml, RenewTooShort, FloorsOverCap}
use Rattle.site_config.specs.declared.fault.SiteError.{SiteError}
use Rattle.site_config.specs.declared.fault.SiteError.TheVariants.{NoMemory, Bad}
use Rattle.site_config.specs.Keys.{base_max, renew_max, pause_max, wait_max, number_at, text_at, inverters_at, policy_of, points_at, port_at}
use Rattle.site_config.specs.Checks.{first_fault, table_fault}

-- the site, where its inverters are reached, and in ms: after what time a limit is written anew, the pause between
-- two turns of a worker, and how long a reply is waited for
pub record SiteFileRecord : Type 0 where
  pub site : SiteRecord
  pub ports : List PortRecord
  pub renew : ℕ
  pub pause : ℕ
  pub wait : ℕ

-- the points of an inverter's rating, and its floor
abbrev pub points_of : unit.Unit → points.Points
points_of unit = record { wmax = unit.rating.wmax; wsf = unit.rating.wsf; psf = unit.rating.psf; floor = unit.floor }

-- the file has what the table says
pub record IsFileOf (table : Members) (file : SiteFileRecord) : Type 0 where
  pub cap : file.site.cap ≡ number_at keys.Cap table
  pub send : file.site.rules.send ≡ number_at keys.Send table
  pub delay : file.site.rules.delay ≡ number_at keys.Delay table
  pub timer : file.site.rules.timer ≡ number_at keys.Timer table
  pub per_mille : file.site.rules.per_mille ≡ number_at keys.PerMille table
  pub slack : file.site.rules.slack ≡ number_at keys.Slack table
  pub renew : file.renew ≡ number_at keys.Renew table
  pub pause : file.pause ≡ number_at keys.Pause table
  pub wait : file.wait ≡ number_at keys.Wait table
  pub room : file.site.room ≡ number_at keys.Book table
  pub policy : Some file.site.policy ≡ policy_of (text_at keys.Policy table)
  pub units : map points_of file.site.units ≡ map points_at (inverters_at table)
  pub ports : file.ports ≡ map port_at (inverters_at table)

-- the least time after which a limit is written anew: the 16th part of the time that a write may be held, rounded up
abbrev pub least_renew : Rules → ℕ
least_renew rules = div_ceil (reach rules) 16

abbrev pub renew_fault : Rules → ℕ → Option SiteFault
renew_fault rules renew = if nat_lt renew (least_renew rules) then Some (RenewTooShort (least_renew rules)) else None

abbrev pub floors_fault : SiteRecord → Option SiteFault
floors_fault site = if nat_lt site.cap (floors site) then Some (FloorsOverCap (floors site)) else None

-- the checks of a file whose table has no fault, in their order
abbrev pub file_checks : SiteFileRecord → List (Option SiteFault)
file_checks file = renew_fault file.site.rules file.renew ∷ floors_fault file.site ∷ []

-- the bytes are a TOML text, of this table
pub record IsText (bytes : List ℕ) (table : Members) : Type 0 where
  pub utf8 : IsUtf8 bytes
  pub parsed : parse_document bytes ≡ Some table

-- the bytes are a TOML text, of a table without a fault, which says what the file has
pub record Says (bytes : List ℕ) (file : SiteFileRecord) : Type 0 where
  pub table : Members
  pub text : IsText bytes table
  pub faultless : table_fault table ≡ None
  pub holds : IsFileOf table file

-- the bytes are the site file
pub record IsSiteFile (bytes : List ℕ) (file : SiteFileRecord) : Type 0 where
  pub says : Says bytes file
  pub faultless : first_fault (file_checks file) ≡ None

-- The bytes are no site file, and this is their first fault: they are no TOML text, or this is the first fault of
-- their table, or of the file that the table says where it has none.
pub data IsRefused (bytes : List ℕ) : SiteFault → Type 0 where
  no_text : (IsUtf8 bytes → parse_document bytes ≡ None) → IsRefused bytes NotToml
  bad_table : {fault : SiteFault} (table : Members) → IsText bytes table → table_fault table ≡ Some fault
      → IsRefused bytes fault
  bad_file : {fault : SiteFault} (file : SiteFileRecord) → Says bytes file → first_fault (file_checks file) ≡ Some fault
      → IsRefused bytes fault

-- The first fault of a table, or of the file that it says where it has none.
pub data IsFaultOf (table : Members) : SiteFault → Type 0 where
  of_table : {fault : SiteFault} → table_fault table ≡ Some fault → IsFaultOf table fault
  of_file : {fault : SiteFault} (file : SiteFileRecord) → table_fault table ≡ None → IsFileOf table file
      → first_fault (file_checks file) ≡ Some fault → IsFaultOf table fault

-- the table has no fault, and neither has the file that it says
pub record IsFaultless (table : Members) : Type 0 where
  pub table_none : table_fault table ≡ None
  pub file_none : (file : SiteFileRecord) → IsFileOf table file → first_fault (file_checks file) ≡ None

-- why a table makes no site file: for want of memory only where nothing of it is at fault
abbrev pub IsTableCause : Members → SiteError → Type 0
IsTableCause table NoMemory = IsFaultless table
IsTableCause table (Bad fault) = IsFaultOf table fault

-- Where memory ran out: as a text that isn't blank was parsed, or for the file of a table of which nothing is at fault.
pub data LacksMemory (bytes : List ℕ) : Type 0 where
  for_parsing : IsUtf8 bytes → (IsBlank bytes → ⊥) → LacksMemory bytes
  for_file : (table : Members) → IsText bytes table → IsFaultless table → LacksMemory bytes

-- why there is no site file
abbrev pub IsCause : List ℕ → SiteError → Type 0
IsCause bytes NoMemory = LacksMemory bytes
IsCause bytes (Bad fault) = IsRefused bytes fault

-- each inverter has its port, and the numbers of the file are in their ranges
pub record IsInRange (file : SiteFileRecord) : Type 0 where
  pub ports : length file.ports ≡ inverters file.site
  pub bases : All (λ (port : PortRecord). port.base ≤ base_max) file.ports
  pub renew_low : 1 ≤ file.renew
  pub renew_high : file.renew ≤ renew_max
  pub pause_high : file.pause ≤ pause_max
  pub wait_low : 1 ≤ file.wait
  pub wait_high : file.wait ≤ wait_max
