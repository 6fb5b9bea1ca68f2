use Rattle.std.proofs.Common.{◌≡◌, ◌≤◌, List, Some}
use Rattle.std.specs.List.{All}
use Rattle.toml.specs.Data.{Members}
use Rattle.toml.specs.View.{items_view}
use Rattle.site_config.specs.Keys.{tables_of, base_max}
use Rattle.site_config.proofs.ReadInverters.{IsReadUpTo}
use Rattle.site_config.proofs.inverters.read_inverters.Given as goal

abbrev pub invariant-loop-number : goal.invariant-loop-number
invariant-loop-number l = record {
  read : (known : List Members) → tables_of (items_view l.tables) ≡ Some known → IsReadUpTo known l.number l.inverters.items;
  bases : All (λ inverter. inverter.port.base ≤ base_max) l.inverters.items;
}
