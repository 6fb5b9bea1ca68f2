use Rattle.std.proofs.Common.{◌≡◌, take}
use Rattle.std.specs.List.{flat_map}
use Rattle.std.specs.Io.KnownBytes.{Appends}
use Rattle.script_text.specs.Text as texts
use Rattle.operator_console.proofs.rolled.write_entries.Given as goal

abbrev pub invariant-loop-entry : goal.invariant-loop-entry
invariant-loop-entry g l =
    Appends (g.O.Sink.taken l.initial.out) (g.O.Sink.taken l.out) (flat_map texts.entry_text (take l.entry-index l.entries))
    × (g.O.Sink.faults l.out ≡ g.O.Sink.faults l.initial.out)
    × (g.O.Sink.faults l.initial.out ≡ 0 → g.O.Sink.late l.out ≡ g.O.Sink.late l.initial.out)
