use Rattle.std.proofs.Common.{◌≡◌, List, ◌++◌, take}
use Rattle.plant_book.specs.declared.book.Entry.{Entry}
use Rattle.plant_book.specs.Policy.{is_strange}
use Rattle.plant_book.proofs.policy.strange_from.Given as goal

abbrev pub invariant-loop-entry : goal.invariant-loop-entry
invariant-loop-entry l = (before : List Entry) → l.fn.from ≡ is_strange l.inverter before → l.strange ≡ is_strange l.inverter (before ++ take l.entry-index l.entries)
