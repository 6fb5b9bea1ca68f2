use Rattle.std.proofs.Common.{◌≡◌, ℕ, List, ◌++◌, take}
use Rattle.plant_book.specs.declared.book.Entry.{Entry}
use Rattle.plant_book.specs.Sums.{last_that}
use Rattle.plant_book.specs.Policy.{wish_after, is_want}
use Rattle.plant_book.proofs.policy.wish_from.Given as goal

abbrev pub invariant-loop-entry : goal.invariant-loop-entry
invariant-loop-entry l = (rated : ℕ) (before : List Entry) → l.fn.from ≡ wish_after rated l.inverter (last_that (is_want l.inverter) before)
    → l.wish ≡ wish_after rated l.inverter (last_that (is_want l.inverter) (before ++ take l.entry-index l.entries))
