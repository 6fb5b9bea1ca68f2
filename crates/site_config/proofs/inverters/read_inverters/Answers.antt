use Rattle.std.proofs.Common.{◌≡◌, ℕ, ◌<◌, length, sym, subst, ◌≤◌, arith}
use Rattle.std.proofs.lemmas.List.Elements.{All-push}
use Rattle.std.proofs.lemmas.Result.{err_from_is_err_and}
use Rattle.toml.specs.View.{table_view}
use Rattle.site_config.specs.Keys.{base_max}
use Rattle.site_config.specs.Checks.{inverter_checks}
use Rattle.site_config.proofs.InverterTables.{is_table, get_or-tables, length-tables_of}
use Rattle.site_config.proofs.FirstFaults.{fault_at}
use Rattle.site_config.proofs.ReadInverters.{IsReadUpTo-more, IsReadUpTo-all}
use Rattle.site_config.proofs.inverters.read_inverters.Goals as goal

pub table_of-requires : goal.table_of-requires
table_of-requires c =
    let item = c.index-tables-number in
    is_table c.args.tables.now c.loop-number.number item.result c.requires.tables c.loop-number-test.true item.is

pub returns-in_err-inverter : goal.returns-in_err-inverter
returns-in_err-inverter c = λ known tables.
    let p = err_from_is_err_and c.from_residual-in_err-inverter.result c.from_residual-in_err-inverter.ensures.1 in
    let item = c.index-tables-number in
    let table = table_view c.table_of.result.now in
    let here = get_or-tables c.args.tables.now known c.loop-number.number item.result table tables c.loop-number-test.true item.is c.table_of.ensures in
    let within = subst (λ (n : ℕ). c.loop-number.number < n) (sym (length-tables_of c.args.tables.now known tables)) c.loop-number-test.true in
    rw (p.1, p.2) (fault_at inverter_checks known c.loop-number.number table c.in_err-inverter.field-0.0 within here (c.loop-number.invariant.read known tables).passes c.in_err-inverter.ensures.fault)

pub loop-number-preserved : goal.loop-number-preserved
loop-number-preserved c =
    let item = c.index-tables-number in
    let table = table_view c.table_of.result.now in
    record {
      read = λ known tables.
          let here = get_or-tables c.args.tables.now known c.loop-number.number item.result table tables c.loop-number-test.true item.is c.table_of.ensures in
          let within = subst (λ (n : ℕ). c.loop-number.number < n) (sym (length-tables_of c.args.tables.now known tables)) c.loop-number-test.true in
          rw c.in_ok-push.ensures.items (IsReadUpTo-more known c.loop-number.number c.loop-number.inverters.items table c.in_ok-inverter.inverter (c.loop-number.invariant.read known tables) within here c.in_ok-inverter.ensures.fault c.in_ok-inverter.ensures.inverter);
      bases = rw c.in_ok-push.ensures.items (All-push (λ inverter. inverter.port.base ≤ base_max) c.loop-number.inverters.items c.in_ok-inverter.inverter c.loop-number.invariant.bases c.in_ok-inverter.ensures.base);
    }

pub returns : goal.returns
returns c = λ known tables.
    let count = length-tables_of c.args.tables.now known tables in
    let all : c.loop-number.number ≡ length known = omega (arith, c.loop-number.auto.number-end) in
    let whole = IsReadUpTo-all known c.loop-number.number c.loop-number.inverters.items (c.loop-number.invariant.read known tables) all in
    (whole.0, whole.1, c.loop-number.invariant.bases)
