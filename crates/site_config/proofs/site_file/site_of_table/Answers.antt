use Rattle.toml.specs.View.{table_view}
use Rattle.site_config.proofs.Judged.{file_made, file_refused, file_openable, file_in_range}
use Rattle.site_config.proofs.site_file.site_of_table.Goals as goal

pub returns-clause-file : goal.returns-clause-file
returns-clause-file c = file_made (table_view c.args.table.now) c.file_of.result c.file_of.ensures

pub returns-clause-refused : goal.returns-clause-refused
returns-clause-refused c = file_refused (table_view c.args.table.now) c.file_of.result c.in_ok-judge.ensures c.file_of.ensures

pub returns-clause-openable : goal.returns-clause-openable
returns-clause-openable c = file_openable (table_view c.args.table.now) c.file_of.result c.in_ok-judge.ensures c.file_of.ensures

pub returns-clause-in_range : goal.returns-clause-in_range
returns-clause-in_range c = file_in_range (table_view c.args.table.now) c.file_of.result c.file_of.ensures
