use Rattle.std.proofs.Common.{arith}
use Rattle.site_config.proofs.Consumption.{few_inverters}
use Rattle.toml.specs.View.{table_view}
use Rattle.site_config.proofs.Judged.{site_read, site_refused}
use Rattle.site_config.proofs.site_file.site_of.Goals as goal

pub site_of_table-requires : goal.site_of_table-requires
site_of_table-requires c = omega (arith, few_inverters c.args.bytes.now (table_view c.in_ok-table.table) c.in_ok-table.ensures.parsed)

pub returns-clause-file : goal.returns-clause-file
returns-clause-file c = site_read c.args.bytes.now (table_view c.in_ok-table.table) c.site_of_table.result c.in_ok-table.ensures c.site_of_table.ensures.file c.site_of_table.ensures.faultless

pub returns-clause-refused : goal.returns-clause-refused
returns-clause-refused c = site_refused c.args.bytes.now (table_view c.in_ok-table.table) c.site_of_table.result c.in_ok-table.ensures c.site_of_table.ensures.refused
