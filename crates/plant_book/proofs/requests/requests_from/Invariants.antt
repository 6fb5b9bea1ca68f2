use Rattle.std.proofs.Common.{◌≡◌, ◌+◌, ◌≤◌, List, ◌++◌, take}
use Rattle.plant_book.specs.declared.book.Entry.{Entry}
use Rattle.plant_book.specs.Requests.{requests}
use Rattle.plant_book.proofs.requests.requests_from.Given as goal

abbrev pub invariant-loop-entry : goal.invariant-loop-entry
invariant-loop-entry l = record {
  counted : (before : List Entry) → l.from ≡ requests l.inverter before → l.count ≡ requests l.inverter (before ++ take l.entry-index l.entries);
  below : l.count ≤ 65535 + l.entry-index;
}
