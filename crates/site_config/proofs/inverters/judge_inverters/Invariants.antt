use Rattle.std.proofs.Common.{◌≡◌, List, Some}
use Rattle.toml.specs.Data.{Members}
use Rattle.toml.specs.View.{items_view}
use Rattle.site_config.specs.Keys.{tables_of}
use Rattle.site_config.proofs.Floors.{JudgedUpTo}
use Rattle.site_config.proofs.inverters.judge_inverters.Given as goal

abbrev pub invariant-loop-number : goal.invariant-loop-number
invariant-loop-number l = (known : List Members) → tables_of (items_view l.tables) ≡ Some known → JudgedUpTo known l.number l.floors
