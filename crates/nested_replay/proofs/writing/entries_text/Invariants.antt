use Rattle.std.proofs.Common.{◌≡◌, ◌++◌, drop}
use Rattle.std.specs.List.{flat_map}
use Rattle.script_text.specs.Text.{entry_text}
use Rattle.nested_replay.proofs.writing.entries_text.Given as goal

abbrev pub invariant-loop-place : goal.invariant-loop-place
invariant-loop-place l = l.out.items ++ flat_map entry_text (drop l.place l.plant.entries) ≡ l.fn.out.items ++ flat_map entry_text (drop l.fn.from l.plant.entries)
