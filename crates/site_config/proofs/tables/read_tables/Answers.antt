use Rattle.std.proofs.Common.{arith, ◌∙◌}
use Rattle.std.proofs.lemmas.Bool.Decides.{nat_tests}
use Rattle.toml.specs.View.{view, table_view}
use Rattle.site_config.proofs.InverterTables.{counted}
use Rattle.site_config.proofs.tables.read_tables.Goals as goal

pub overflow_cast-result : goal.overflow_cast-result
overflow_cast-result c =
    let known = counted (table_view c.args.fields.now.table.now) (view c.in-Some.value.now) c.in-Some-tables.tables.now c.in-Some.ensures c.in-Some-tables.ensures.0 c.in-Some-tables.ensures.1 in
    omega arith

pub returns-then-count-gt-INVERTERS_MAX-clause-fault :
    goal.returns-then-count-gt-INVERTERS_MAX-clause-fault
returns-then-count-gt-INVERTERS_MAX-clause-fault c =
    let known = counted (table_view c.args.fields.now.table.now) (view c.in-Some.value.now) c.in-Some-tables.tables.now c.in-Some.ensures c.in-Some-tables.ensures.0 c.in-Some-tables.ensures.1 in
    known.fault ∙ grind (arith, nat_tests)

pub returns-clause-fault : goal.returns-clause-fault
returns-clause-fault c =
    let known = counted (table_view c.args.fields.now.table.now) (view c.in-Some.value.now) c.in-Some-tables.tables.now c.in-Some.ensures c.in-Some-tables.ensures.0 c.in-Some-tables.ensures.1 in
    known.fault ∙ grind (arith, nat_tests)
