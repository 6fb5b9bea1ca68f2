-- Sums over the inverters of a plant, and the last entry that passes a test, with those before it.
use Rattle.std.specs.Prelude.{ℕ, ◌+◌, ◌-◌, Bool, List, Option, length, take, reverse, find}
use Rattle.std.specs.List.{after_last}
use Rattle.std.proofs.Common.{zero, suc}

-- f 0 + f 1 + .. up to the number below the bound
unfoldable pub sum_below : ℕ → (ℕ → ℕ) → ℕ
sum_below zero f = 0
sum_below (suc n) f = sum_below n f + f n

-- the last element that passes
unfoldable pub last_that : {X : Type 0} → (X → Bool) → List X → Option X
last_that test xs = find test (reverse xs)

-- the elements up to the last that passes, with it, or none where none does
unfoldable pub through_last : {X : Type 0} → (X → Bool) → List X → List X
through_last test xs = take (length xs - length (after_last test xs)) xs
