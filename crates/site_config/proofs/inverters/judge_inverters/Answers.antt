use Rattle.std.proofs.Common.{ℕ, ◌<◌, map, sym, ap, subst, arith}
use Rattle.std.specs.Option.{option_or}
use Rattle.std.proofs.lemmas.Result.{err_from_is_err_and}
use Rattle.toml.specs.View.{table_view}
use Rattle.site_config.specs.declared.inverters.Inverter.{Inverter}
use Rattle.site_config.specs.Keys.{points_at}
use Rattle.site_config.specs.Checks.{first_fault, each, inverter_checks, unit_checks}
use Rattle.site_config.proofs.InverterTables.{is_table, get_or-tables, length-tables_of, some_of}
use Rattle.site_config.proofs.FirstFaults.{fault_at}
use Rattle.site_config.proofs.Floors.{judged_none, judged_more, judged_all, floors_small}
use Rattle.site_config.proofs.inverters.judge_inverters.Goals as goal

pub loop-number-init : goal.loop-number-init
loop-number-init c = λ known tables. judged_none known

pub table_of-requires : goal.table_of-requires
table_of-requires c =
    let item = c.index-tables-number in
    is_table c.args.tables.now c.loop-number.number item.result c.requires.tables c.loop-number-test.true item.is

pub with_floor-floors-requires : goal.with_floor-floors-requires
with_floor-floors-requires c =
    let known = some_of _ c.requires.tables in
    floors_small known.0 c.loop-number.number c.loop-number.floors (c.loop-number.invariant known.0 known.1) (omega (arith, c.requires.few, c.loop-number-test.true))

pub returns-in_err-inverter : goal.returns-in_err-inverter
returns-in_err-inverter c = λ known tables.
    let p = err_from_is_err_and c.from_residual.result c.from_residual.ensures.1 in
    let item = c.index-tables-number in
    let table = table_view c.table_of.result.now in
    let here = get_or-tables c.args.tables.now known c.loop-number.number item.result table tables c.loop-number-test.true item.is c.table_of.ensures in
    let within = subst (λ (n : ℕ). c.loop-number.number < n) (sym (length-tables_of c.args.tables.now known tables)) c.loop-number-test.true in
    rw (p.1, p.2) (ap (λ o. option_or o (first_fault (each unit_checks (map points_at known)))) (fault_at inverter_checks known c.loop-number.number table c.in_err-inverter.field-0.0 within here (c.loop-number.invariant known tables).passes c.in_err-inverter.ensures.fault))

pub loop-number-preserved : goal.loop-number-preserved
loop-number-preserved c = λ known tables.
    let item = c.index-tables-number in
    let table = table_view c.table_of.result.now in
    let here = get_or-tables c.args.tables.now known c.loop-number.number item.result table tables c.loop-number-test.true item.is c.table_of.ensures in
    let within = subst (λ (n : ℕ). c.loop-number.number < n) (sym (length-tables_of c.args.tables.now known tables)) c.loop-number-test.true in
    let points = ap (λ (i : Inverter). i.points) c.in_ok-inverter.ensures.inverter in
    judged_more known c.loop-number.number table c.loop-number.floors c.with_floor-floors.result c.unit_of.result within here (c.loop-number.invariant known tables) c.in_ok-inverter.ensures.fault
    (rw points at c.unit_of.ensures.fault) (rw points at c.unit_of.ensures.unit) c.with_floor-floors.ensures

pub returns : goal.returns
returns c = λ known tables.
    let count = length-tables_of c.args.tables.now known tables in
    judged_all known c.loop-number.number c.loop-number.floors (c.loop-number.invariant known tables) (omega (arith, count, c.loop-number.auto.number-end))
