-- A whole table: its first fault by its parts, and the file that its parts make.
use Rattle.std.proofs.Common.{◌≡◌, ◌≤◌, List, [], ◌∷◌, ◌++◌, length, map, Option, Some, None, refl, sym, ap, ◌∙◌}
use Rattle.std.specs.Option.{option_or}
use Rattle.std.specs.List.{All}
use Rattle.std.proofs.lemmas.List.{length-map}
use Rattle.std.proofs.lemmas.List.Elements.{All-map, All-same}
use Rattle.toml.specs.Data.{Members}
use Rattle.plant_book.specs.declared.site.Unit as unit
use Rattle.plant_book.specs.Port.{PortRecord}
use Rattle.site_config.specs.declared.fault.SiteFault.{SiteFault}
use Rattle.site_config.specs.declared.fault.SiteError.{SiteError}
use Rattle.site_config.specs.declared.fault.SiteError.TheVariants.{NoMemory, Bad}
use Rattle.site_config.specs.declared.inverters.Inverter.{Inverter}
use Rattle.site_config.specs.declared.points.Points.{Points}
use Rattle.site_config.specs.Keys.{inverters_at, points_at, port_at, base_max}
use Rattle.site_config.specs.Checks.{first_fault, each, site_checks, inverter_checks, unit_checks, table_fault}
use Rattle.site_config.specs.SiteFile.{points_of}
use Rattle.site_config.specs.Reading.{Tells, inverter_at}
use Rattle.site_config.proofs.FirstFaults.{first_fault-append}

abbrev of_inverters : Members → Option SiteFault
of_inverters table = first_fault (each inverter_checks (inverters_at table))

abbrev of_units : Members → Option SiteFault
of_units table = first_fault (each unit_checks (map points_at (inverters_at table)))

option_or-assoc : (a b c : Option SiteFault) → option_or (option_or a b) c ≡ option_or a (option_or b c)
option_or-assoc None b c = refl
option_or-assoc (Some fault) b c = refl

table_fault-parts : (table : Members) → table_fault table ≡ option_or (first_fault (site_checks table)) (option_or (of_inverters table) (of_units table))
unfolding table_fault
table_fault-parts table =
    first_fault-append (site_checks table ++ each inverter_checks (inverters_at table)) (each unit_checks (map points_at (inverters_at table)))
    ∙ ap (λ o. option_or o (of_units table)) (first_fault-append (site_checks table) (each inverter_checks (inverters_at table)))
    ∙ option_or-assoc (first_fault (site_checks table)) (of_inverters table) (of_units table)

-- behind a site whose keys have no fault
pub behind_site : (table : Members) → first_fault (site_checks table) ≡ None → table_fault table ≡ option_or (of_inverters table) (of_units table)
behind_site table none = table_fault-parts table ∙ ap (λ o. option_or o (option_or (of_inverters table) (of_units table))) none

behind_inverters : (table : Members) → first_fault (site_checks table) ≡ None → of_inverters table ≡ None → table_fault table ≡ of_units table
behind_inverters table none more = behind_site table none ∙ ap (λ o. option_or o (of_units table)) more

pub told_by_site : (table : Members) (fault : SiteFault) → first_fault (site_checks table) ≡ Some fault → table_fault table ≡ Some fault
told_by_site table fault told = table_fault-parts table ∙ ap (λ o. option_or o (option_or (of_inverters table) (of_units table))) told

pub told_by_inverters : (table : Members) (error : SiteError) → first_fault (site_checks table) ≡ None → Tells (of_inverters table) error → Tells (table_fault table) error
told_by_inverters table NoMemory none told = tt
told_by_inverters table (Bad fault) none told = behind_site table none ∙ ap (λ o. option_or o (of_units table)) told

pub told_by_units : (table : Members) (error : SiteError) → first_fault (site_checks table) ≡ None → of_inverters table ≡ None → Tells (of_units table) error → Tells (table_fault table) error
told_by_units table NoMemory none more told = tt
told_by_units table (Bad fault) none more told = behind_inverters table none more ∙ told

pub faultless_table : (table : Members) → first_fault (site_checks table) ≡ None → of_inverters table ≡ None → of_units table ≡ None → table_fault table ≡ None
faultless_table table none more last = behind_inverters table none more ∙ last

-- the inverters that were read of a table, and what was made of them
pub record AreMade (table : Members) (inverters : List Inverter) (units : List unit.Unit) (ports : List PortRecord) : Type 0 where
  pub read : inverters ≡ map inverter_at (inverters_at table)
  pub rated : map points_of units ≡ map (λ inverter. inverter.points) inverters
  pub reached : ports ≡ map (λ inverter. inverter.port) inverters

pub map-points : (tables : List Members) → map (λ inverter. inverter.points) (map inverter_at tables) ≡ map points_at tables
map-points [] = refl
map-points (table ∷ more) = ap (λ (rest : List Points). points_at table ∷ rest) (map-points more)

pub map-port : (tables : List Members) → map (λ inverter. inverter.port) (map inverter_at tables) ≡ map port_at tables
map-port [] = refl
map-port (table ∷ more) = ap (λ (rest : List PortRecord). port_at table ∷ rest) (map-port more)

pub points_are : (table : Members) (inverters : List Inverter) → inverters ≡ map inverter_at (inverters_at table) → map (λ inverter. inverter.points) inverters ≡ map points_at (inverters_at table)
points_are table inverters read = ap (map (λ inverter. inverter.points)) read ∙ map-points (inverters_at table)

pub units_are : (table : Members) (inverters : List Inverter) (units : List unit.Unit) (ports : List PortRecord) → AreMade table inverters units ports → map points_of units ≡ map points_at (inverters_at table)
units_are table inverters units ports made = made.rated ∙ points_are table inverters made.read

pub ports_are : (table : Members) (inverters : List Inverter) (units : List unit.Unit) (ports : List PortRecord) → AreMade table inverters units ports → ports ≡ map port_at (inverters_at table)
ports_are table inverters units ports made = made.reached ∙ ap (map (λ inverter. inverter.port)) made.read ∙ map-port (inverters_at table)

pub length-units : (table : Members) (inverters : List Inverter) (units : List unit.Unit) (ports : List PortRecord) → AreMade table inverters units ports → length units ≡ length (inverters_at table)
length-units table inverters units ports made =
    sym (length-map units points_of) ∙ ap length (units_are table inverters units ports made) ∙ length-map (inverters_at table) points_at

pub length-ports : (table : Members) (inverters : List Inverter) (units : List unit.Unit) (ports : List PortRecord) → AreMade table inverters units ports → length ports ≡ length units
length-ports table inverters units ports made =
    ap length (ports_are table inverters units ports made) ∙ length-map (inverters_at table) port_at ∙ sym (length-units table inverters units ports made)

pub bases_are : (inverters : List Inverter) (ports : List PortRecord) → ports ≡ map (λ inverter. inverter.port) inverters
    → All (λ inverter. inverter.port.base ≤ base_max) inverters → All (λ (port : PortRecord). port.base ≤ base_max) ports
bases_are inverters ports reached bases =
    All-same (λ (port : PortRecord). port.base ≤ base_max) ports (map (λ inverter. inverter.port) inverters) reached
    (All-map (λ (port : PortRecord). port.base ≤ base_max) (λ inverter. inverter.port) inverters bases)
