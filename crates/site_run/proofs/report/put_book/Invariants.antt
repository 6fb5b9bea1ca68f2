use Rattle.std.proofs.Common.{◌≡◌, ◌++◌, take}
use Rattle.std.specs.List.{flat_map}
use Rattle.script_text.specs.Text.{entry_text}
use Rattle.site_run.proofs.report.put_book.Given as goal

-- the lines of the first entries, behind the head
abbrev pub invariant-loop-place : goal.invariant-loop-place
invariant-loop-place l = l.text.items ≡ l.initial.text.items ++ flat_map entry_text (take l.place l.plant.entries)
