use Rattle.std.proofs.Common.{◌≡◌, ℕ, List, ◌++◌, take}
use Rattle.plant_book.specs.declared.book.Entry.{Entry}
use Rattle.plant_book.specs.Sums.{last_that}
use Rattle.plant_book.specs.Caps.{cap_after, sets_cap}
use Rattle.plant_book.proofs.caps.cap_from.Given as goal

abbrev pub invariant-loop-entry : goal.invariant-loop-entry
invariant-loop-entry l = (most : ℕ) (before : List Entry) → l.fn.from ≡ cap_after most (last_that sets_cap before)
    → l.cap ≡ cap_after most (last_that sets_cap (before ++ take l.entry-index l.entries))
