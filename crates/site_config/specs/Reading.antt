-- What the parts of a site file hold as they are read, and what stops the reading.
use Rattle.std.specs.Prelude.{◌≡◌, ℕ, ◌+◌, ◌*◌, ◌^◌, ◌≤◌, List, map, length, sum_by, Option, Some, None, Result, Ok, Err, Vec}
use Rattle.std.specs.Option.{option_or}
use Rattle.std.specs.List.{All}
use Rattle.std.specs.declared.alloc.Global.{Global}
use Rattle.toml.specs.Data.{Members}
use Rattle.toml.specs.View.{items_view}
use Rattle.limiter_num.specs.Rating.{mw}
use Rattle.limiter_num.specs.declared.rules.Rules.{Rules}
use Rattle.plant_book.specs.Site.{IsSite, inverters}
use Rattle.plant_book.specs.declared.site.Unit as unit
use Rattle.site_config.specs.declared.key.Key.TheVariants as keys
use Rattle.site_config.specs.declared.fault.SiteFault.{SiteFault}
use Rattle.site_config.specs.declared.fault.SiteError.{SiteError}
use Rattle.site_config.specs.declared.fault.SiteError.TheVariants.{NoMemory, Bad}
use Rattle.site_config.specs.declared.settings.Pace as pace
use Rattle.site_config.specs.declared.settings.Settings as settings
use Rattle.site_config.specs.declared.inverters.Inverter as inverter
use Rattle.site_config.specs.declared.points.Points as points
use Rattle.site_config.specs.Checks.{first_fault, each, inverter_checks, unit_checks, table_fault}
use Rattle.site_config.specs.SiteFile.{SiteFileRecord, IsFileOf, IsInRange, points_of}
use Rattle.site_config.specs.Keys.{number_at, text_at, policy_of, tables_of, inverters_at, port_at, points_at, base_max, renew_max, pause_max, wait_max}

-- the rules have the numbers of the table
pub record HasRules (site : Members) (rules : Rules) : Type 0 where
  pub send : rules.send ≡ number_at keys.Send site
  pub delay : rules.delay ≡ number_at keys.Delay site
  pub timer : rules.timer ≡ number_at keys.Timer site
  pub per_mille : rules.per_mille ≡ number_at keys.PerMille site
  pub slack : rules.slack ≡ number_at keys.Slack site

-- and so has the pace of the workers
pub record HasPace (site : Members) (pace : pace.Pace) : Type 0 where
  pub renew : pace.renew ≡ number_at keys.Renew site
  pub pause : pace.pause ≡ number_at keys.Pause site
  pub wait : pace.wait ≡ number_at keys.Wait site
  pub renew_low : 1 ≤ pace.renew
  pub renew_high : pace.renew ≤ renew_max
  pub pause_high : pace.pause ≤ pause_max
  pub wait_low : 1 ≤ pace.wait
  pub wait_high : pace.wait ≤ wait_max

-- the settings are those of the table
pub record HasSettings (site : Members) (settings : settings.Settings) : Type 0 where
  pub cap : settings.cap ≡ number_at keys.Cap site
  pub cap_high : settings.cap ≤ 10 ^ 14
  pub rules : HasRules site settings.rules
  pub pace : HasPace site settings.pace
  pub room : settings.room ≡ number_at keys.Book site
  pub room_low : 1 ≤ settings.room
  pub room_high : settings.room ≤ 1048576
  pub policy : Some settings.policy ≡ policy_of (text_at keys.Policy site)
  pub inverters : tables_of (items_view settings.inverters.now) ≡ Some (inverters_at site)
  pub some : 1 ≤ length settings.inverters.now
  pub few : length settings.inverters.now ≤ 64

-- an error tells the fault that was found; want of memory tells nothing
abbrev pub Tells : Option SiteFault → SiteError → Type 0
Tells found NoMemory = Unit {0}
Tells found (Bad fault) = found ≡ Some fault

-- what the table of an inverter says
abbrev pub inverter_at : Members → inverter.Inverter
inverter_at table = record { port = port_at table; points = points_at table }

-- the sum of the floors in milliwatts, up to one more inverter; the first fault stays
abbrev pub AddsFloor : Result ℕ SiteFault → Result unit.Unit SiteFault → Result ℕ SiteFault → Type 0
AddsFloor (Ok sum) (Ok unit) result =
    (result ≡ Ok (sum + mw unit.rating unit.floor)) × (mw unit.rating unit.floor ≤ 65535 * 10 ^ 12)
AddsFloor (Ok sum) (Err fault) result = result ≡ Err fault
AddsFloor (Err fault) unit result = result ≡ Err fault

-- these are inverters without a fault that the tables say
pub record AreFloored (tables : List Members) (sum : ℕ) : Type 0 where
  pub units : List unit.Unit
  pub points_are : map points_of units ≡ map points_at tables
  pub sum_is : sum ≡ sum_by (λ unit. mw unit.rating unit.floor) units

-- the milliwatts of the floors of these tables' inverters, or the first fault of their keys, or else of their ratings
abbrev pub JudgesInverters : List Members → Result ℕ SiteFault → Type 0
JudgesInverters tables (Ok sum) =
    (first_fault (each inverter_checks tables) ≡ None) × (first_fault (each unit_checks (map points_at tables)) ≡ None)
    × AreFloored tables sum
JudgesInverters tables (Err fault) =
    option_or (first_fault (each inverter_checks tables)) (first_fault (each unit_checks (map points_at tables)))
    ≡ Some fault

-- the inverters of these tables, or their first fault
abbrev pub ReadsInverters : List Members → Result (Vec inverter.Inverter Global) SiteError → Type 0
ReadsInverters tables (Ok inverters) =
    (first_fault (each inverter_checks tables) ≡ None) × (inverters.items ≡ map inverter_at tables)
    × All (λ inverter. inverter.port.base ≤ base_max) inverters.items
ReadsInverters tables (Err error) = Tells (first_fault (each inverter_checks tables)) error

-- the inverters of these points as the ledger sees them, or their first fault
abbrev pub Rates : List points.Points → Result (Vec unit.Unit Global) SiteError → Type 0
Rates points (Ok units) = (first_fault (each unit_checks points) ≡ None) × (map points_of units.items ≡ points)
Rates points (Err error) = Tells (first_fault (each unit_checks points)) error

-- the file that the table says, or the table's first fault
abbrev pub MakesFile : Members → Result SiteFileRecord SiteError → Type 0
MakesFile table (Ok file) = (table_fault table ≡ None) × IsFileOf table file × IsInRange file
    × IsSite file.site × (1 ≤ inverters file.site) × (inverters file.site ≤ 64)
MakesFile table (Err error) = Tells (table_fault table) error
