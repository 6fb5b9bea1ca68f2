-- The file that a table's settings and inverters make.
use Rattle.std.proofs.Common.{◌≡◌, ◌≤◌, List, length, ◌∙◌, arith}
use Rattle.std.specs.List.{All}
use Rattle.toml.specs.Data.{Members}
use Rattle.plant_book.specs.declared.site.Unit as unit
use Rattle.plant_book.specs.Port.{PortRecord}
use Rattle.plant_book.specs.Site.{SiteRecord, IsSite, inverters}
use Rattle.site_config.specs.declared.settings.Settings.{Settings}
use Rattle.site_config.specs.declared.inverters.Inverter.{Inverter}
use Rattle.site_config.specs.Keys.{inverters_at, base_max}
use Rattle.site_config.specs.SiteFile.{SiteFileRecord, IsFileOf, IsInRange}
use Rattle.site_config.specs.Reading.{HasSettings}
use Rattle.site_config.proofs.InverterTables.{length-tables_of}
use Rattle.site_config.proofs.WholeTable.{AreMade, units_are, ports_are, length-units, length-ports, bases_are}

abbrev pub site_of_settings : Settings → List unit.Unit → SiteRecord
site_of_settings settings units =
    record { cap = settings.cap; rules = settings.rules; policy = settings.policy; room = settings.room; units = units }

abbrev pub file_of_settings : Settings → List unit.Unit → List PortRecord → SiteFileRecord
file_of_settings settings units ports = record {
  site = site_of_settings settings units;
  ports = ports;
  renew = settings.pace.renew;
  pause = settings.pace.pause;
  wait = settings.pace.wait;
}

pub IsFileOf-made : (table : Members) (settings : Settings) (inverters : List Inverter) (units : List unit.Unit) (ports : List PortRecord)
    → HasSettings table settings → AreMade table inverters units ports → IsFileOf table (file_of_settings settings units ports)
IsFileOf-made table settings inverters units ports has made = record {
  cap = has.cap;
  send = has.rules.send;
  delay = has.rules.delay;
  timer = has.rules.timer;
  per_mille = has.rules.per_mille;
  slack = has.rules.slack;
  renew = has.pace.renew;
  pause = has.pace.pause;
  wait = has.pace.wait;
  room = has.room;
  policy = has.policy;
  units = units_are table inverters units ports made;
  ports = ports_are table inverters units ports made;
}

pub IsInRange-made : (table : Members) (settings : Settings) (inverters : List Inverter) (units : List unit.Unit) (ports : List PortRecord)
    → HasSettings table settings → AreMade table inverters units ports → All (λ inverter. inverter.port.base ≤ base_max) inverters
    → IsInRange (file_of_settings settings units ports)
IsInRange-made table settings inverters units ports has made bases = record {
  ports = length-ports table inverters units ports made;
  bases = bases_are inverters ports made.reached bases;
  renew_low = has.pace.renew_low;
  renew_high = has.pace.renew_high;
  pause_high = has.pace.pause_high;
  wait_low = has.pace.wait_low;
  wait_high = has.pace.wait_high;
}

-- as many units as tables
pub count : (table : Members) (settings : Settings) (inverters : List Inverter) (units : List unit.Unit) (ports : List PortRecord)
    → HasSettings table settings → AreMade table inverters units ports → length units ≡ length settings.inverters.now
count table settings inverters units ports has made =
    length-units table inverters units ports made ∙ length-tables_of settings.inverters.now (inverters_at table) has.inverters

pub IsSite-made : (table : Members) (settings : Settings) (inverters : List Inverter) (units : List unit.Unit) (ports : List PortRecord)
    → HasSettings table settings → AreMade table inverters units ports → IsSite (site_of_settings settings units)
IsSite-made table settings inverters units ports has made =
    let many = count table settings inverters units ports has made in
    record { cap = has.cap_high; room_low = has.room_low; room_high = has.room_high; units = omega (arith, many, has.few) }
