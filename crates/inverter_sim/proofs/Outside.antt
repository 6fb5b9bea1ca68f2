-- When a read has a register outside of the map.
use Rattle.std.proofs.Common.{◌≡◌, ℕ, zero, suc, ◌+◌, ◌<◌, ◌≤◌, Bool, true, false, ◌||◌, refl, arith}
use Rattle.std.specs.List.{list_any, range_with_len}
use Rattle.std.proofs.lemmas.Bool.Decides.{nat_tests}
use Rattle.inverter_sim.specs.Replies.{is_outside}

inside_map : (address : ℕ) → 40000 ≤ address → address ≤ 40364 → is_outside address ≡ false
inside_map address low high = grind (arith, nat_tests)

below_map : (address : ℕ) → address < 40000 → is_outside address ≡ true
below_map address low = grind (arith, nat_tests)

above_map : (address : ℕ) → 40364 < address → is_outside address ≡ true
above_map address high = grind (arith, nat_tests)

or_true : (a b : Bool) → b ≡ true → a || b ≡ true
or_true true b e = refl
or_true false b e = e

pub none_outside : (start count : ℕ) → 40000 ≤ start → start + count ≤ 40365 → list_any is_outside (range_with_len start count) ≡ false
none_outside start zero low high = refl
none_outside start (suc n) low high = rw (inside_map start low (omega arith)) (none_outside (start + 1) n (omega arith) (omega arith))

pub one_below : (start count : ℕ) → 1 ≤ count → start < 40000 → list_any is_outside (range_with_len start count) ≡ true
one_below start zero some low = absurd (omega arith)
one_below start (suc n) some low = rw (below_map start low)

pub one_above : (start count : ℕ) → 1 ≤ count → 40365 < start + count → list_any is_outside (range_with_len start count) ≡ true
one_above start zero some high = absurd (omega arith)
one_above start (suc zero) some high = rw (above_map start (omega arith))
one_above start (suc (suc n)) some high = or_true (is_outside start) _ (one_above (start + 1) (suc n) (omega arith) (omega arith))
