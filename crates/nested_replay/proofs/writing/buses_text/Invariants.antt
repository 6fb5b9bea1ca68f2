use Rattle.std.proofs.Common.{◌≡◌, ◌++◌, take}
use Rattle.std.specs.List.{flat_map}
use Rattle.nested_replay.specs.Played.{bus_text}
use Rattle.nested_replay.proofs.writing.buses_text.Given as goal

abbrev pub invariant-loop-bus : goal.invariant-loop-bus
invariant-loop-bus l = l.out.items ≡ l.fn.out.items ++ flat_map bus_text (take l.bus-index l.buses)
