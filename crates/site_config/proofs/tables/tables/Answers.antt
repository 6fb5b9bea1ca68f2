use Rattle.std.proofs.Common.{sym, ◌∙◌}
use Rattle.toml.specs.View.{view}
use Rattle.site_config.proofs.InverterTables.{is_some-tables_of, none_of, as_tables_of}
use Rattle.site_config.proofs.tables.tables.Goals as goal

pub returns-then-are_tables : goal.returns-then-are_tables
returns-then-are_tables c = (
  is_some-tables_of c.as_slice-values.result.now ∙ sym c.if-are_tables.ensures,
  as_tables_of (view c.args.value.now) _ c.as_slice-values.result.now c.in_ok-as_array.ensures c.as_slice-values.ensures.value,
)

pub returns-else-are_tables : goal.returns-else-are_tables
returns-else-are_tables c =
    as_tables_of (view c.args.value.now) _ c.as_slice-values.result.now c.in_ok-as_array.ensures c.as_slice-values.ensures.value
    ∙ none_of _ (is_some-tables_of c.as_slice-values.result.now ∙ sym c.if-are_tables.ensures)
