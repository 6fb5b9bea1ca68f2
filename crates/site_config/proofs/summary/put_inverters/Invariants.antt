use Rattle.std.specs.Prelude.{string_bytes}
use Rattle.std.proofs.Common.{◌≡◌, ◌++◌}
use Rattle.site_config.proofs.InverterLines.{lines_below}
use Rattle.site_config.proofs.summary.put_inverters.Given as goal

abbrev pub invariant-loop-number : goal.invariant-loop-number
invariant-loop-number l = string_bytes l.text ≡ string_bytes l.initial.text ++ lines_below l.number l.units
