use Rattle.std.proofs.Common.{◌≤◌, length, map, sym, ap, refl, ◌∙◌, arith}
use Rattle.std.proofs.lemmas.Result.{err_from_is_err_and}
use Rattle.std.proofs.lemmas.List.{length-map}
use Rattle.toml.specs.View.{table_view}
use Rattle.site_config.specs.Keys.{inverters_at, base_max}
use Rattle.site_config.proofs.InverterTables.{length-tables_of}
use Rattle.site_config.proofs.MadeFile.{count, IsFileOf-made, IsInRange-made, IsSite-made}
use Rattle.site_config.specs.Checks.{first_fault, each, unit_checks}
use Rattle.site_config.specs.declared.inverters.Inverter.{Inverter}
use Rattle.std.proofs.lemmas.List.Elements.{All-same}
use Rattle.site_config.proofs.WholeTable.{told_by_site, told_by_inverters, told_by_units, points_are, faultless_table, AreMade}
use Rattle.site_config.proofs.site_file.file_of.Goals as goal

pub returns-in_err-settings : goal.returns-in_err-settings
returns-in_err-settings c =
    let p = err_from_is_err_and c.from_residual.result c.from_residual.ensures.1 in
    rw (p.1, p.2) (told_by_site (table_view c.args.table.now) c.in_err-settings.field-0.0 c.in_err-settings.ensures.fault)

pub returns-in_err-inverters : goal.returns-in_err-inverters
returns-in_err-inverters c =
    let table = table_view c.args.table.now in
    let settings = c.in_ok-settings.ensures in
    let p = err_from_is_err_and c.from_residual-in_err-inverters.result c.from_residual-in_err-inverters.ensures.1 in
    rw (p.1, p.2) (told_by_inverters table c.in_err-inverters.field-0.0 settings.fault (c.in_err-inverters.ensures (inverters_at table) settings.settings.inverters))

pub units_of-requires : goal.units_of-requires
units_of-requires c =
    let table = table_view c.args.table.now in
    let settings = c.in_ok-settings.ensures.settings in
    let read = c.in_ok-inverters.ensures (inverters_at table) settings.inverters in
    let count = ap length (c.deref.ensures.value ∙ read.1) ∙ length-map _ _ ∙ length-tables_of c.in_ok-settings.settings.inverters.now (inverters_at table) settings.inverters in
    omega (arith, count, settings.few)

pub returns-in_err-units : goal.returns-in_err-units
returns-in_err-units c =
    let table = table_view c.args.table.now in
    let settings = c.in_ok-settings.ensures in
    let read = c.in_ok-inverters.ensures (inverters_at table) settings.settings.inverters in
    let points = points_are table c.deref.result.now (c.deref.ensures.value ∙ read.1) in
    let p = err_from_is_err_and c.from_residual-in_err-units.result c.from_residual-in_err-units.ensures.1 in
    rw (p.1, p.2) (told_by_units table c.in_err-units.field-0.0 settings.fault read.0 (rw points at c.in_err-units.ensures))

pub new-site-requires-clause-units : goal.new-site-requires-clause-units
new-site-requires-clause-units c =
    let table = table_view c.args.table.now in
    let settings = c.in_ok-settings.ensures.settings in
    let read = c.in_ok-inverters.ensures (inverters_at table) settings.inverters in
    let made : AreMade table c.deref.result.now c.in_ok-units.units.items _ =
    record { read = c.deref.ensures.value ∙ read.1; rated = c.in_ok-units.ensures.1; reached = refl } in
    let many = count table c.in_ok-settings.settings c.deref.result.now c.in_ok-units.units.items _ settings made in
    omega (arith, many, settings.few, c.in_ok-units.units.ok.0)

pub returns : goal.returns
returns c =
    let table = table_view c.args.table.now in
    let settings = c.in_ok-settings.settings in
    let has = c.in_ok-settings.ensures.settings in
    let inverters = c.deref.result.now in
    let units = c.in_ok-units.units.items in
    let ports = c.in_ok-ports.ports.items in
    let read = c.in_ok-inverters.ensures (inverters_at table) has.inverters in
    let made : AreMade table inverters units ports =
    record {
      read = c.deref.ensures.value ∙ read.1;
      rated = c.in_ok-units.ensures.1;
      reached = c.in_ok-ports.ensures ∙ sym (ap (map (λ inverter. inverter.port)) c.deref.ensures.value);
    } in
    let bases = All-same (λ (inverter : Inverter). inverter.port.base ≤ base_max) inverters c.in_ok-inverters.inverters.items c.deref.ensures.value read.2 in
    let many = count table settings inverters units ports has made in
    let points = points_are table inverters made.read in
    rw c.new-site.ensures (
      faultless_table table c.in_ok-settings.ensures.fault read.0 (ap (λ all. first_fault (each unit_checks all)) (sym points) ∙ c.in_ok-units.ensures.0),
      IsFileOf-made table settings inverters units ports has made,
      IsInRange-made table settings inverters units ports has made bases,
      IsSite-made table settings inverters units ports has made,
      omega (arith, many, has.some),
      omega (arith, many, has.few),
    )
