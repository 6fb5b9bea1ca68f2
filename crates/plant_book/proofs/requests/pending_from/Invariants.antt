use Rattle.std.proofs.Common.{◌≡◌, List, ◌++◌, take}
use Rattle.plant_book.specs.declared.book.Entry.{Entry}
use Rattle.plant_book.specs.Requests.{pending_read}
use Rattle.plant_book.proofs.requests.pending_from.Given as goal

abbrev pub invariant-loop-entry : goal.invariant-loop-entry
invariant-loop-entry l = (before : List Entry) → l.fn.from ≡ pending_read l.inverter before → l.pending ≡ pending_read l.inverter (before ++ take l.entry-index l.entries)
