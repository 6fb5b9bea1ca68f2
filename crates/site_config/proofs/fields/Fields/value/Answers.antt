use Rattle.toml.proofs.Views.{table_get}
use Rattle.site_config.specs.Keys.{value_at}
use Rattle.site_config.proofs.fields.Fields.value.Goals as goal

pub returns : goal.returns
unfolding value_at
returns c = rw (← c.name.ensures) (table_get c.get.result c.name.result.now c.args.self.now.table.now.entries c.get.ensures.value)
