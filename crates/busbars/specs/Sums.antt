-- The sums of a number over the first inverters, of which the sum over a bus is a difference.
use Rattle.std.specs.Prelude.{◌≡◌, ℕ, ◌≤◌, List, slice_index}
use Rattle.plant_book.specs.Sums.{sum_below}

-- at each place up to the count: the sum of the number over the inverters below it
abbrev pub AreSums : ℕ → (ℕ → ℕ) → List ℕ → Type 0
AreSums count number sums = (below : ℕ) → below ≤ count → slice_index sums below ≡ sum_below below number
