-- Two buses cross exactly where one begins before the other and ends within it.
use Rattle.std.proofs.Common.{◌≡◌, ℕ, zero, suc, ◌<◌, ◌≤◌, ◌⊎◌, Bool, true, false, List, [], ◌∷◌, length, leb, refl, arith, inl, inr, MatchBool}
use Rattle.std.specs.Prelude.{IsTrue}
use Rattle.std.specs.List.{HoldsAt, AllWithin, AllByRecursion}
use Rattle.std.proofs.lemmas.Bool.{and_parts, and_from, leb-true, le-leb, cases_lt, false≢true}
use Rattle.busbars.specs.declared.bus.Bus as bus
use Rattle.busbars.specs.Buses.{holds, HoldsAll, Crosses, CrossesOne}

pub is_on : (b : bus.Bus) (inverter : ℕ) → b.lo ≤ inverter → inverter ≤ b.hi → holds b inverter ≡ true
is_on b inverter low high = and_from (leb b.lo inverter) (leb inverter b.hi) (le-leb b.lo inverter low) (le-leb inverter b.hi high)

pub on_is : (b : bus.Bus) (inverter : ℕ) → holds b inverter ≡ true → (b.lo ≤ inverter) × (inverter ≤ b.hi)
on_is b inverter on =
    let both = and_parts (leb b.lo inverter) (leb inverter b.hi) on in
    (leb-true b.lo inverter both.0, leb-true inverter b.hi both.1)

-- one begins before the other, and ends within it before the other does
abbrev pub EndsWithin : bus.Bus → bus.Bus → Type 0
EndsWithin one other = (one.lo < other.lo) × (other.lo ≤ one.hi) × (one.hi < other.hi)

holds_all : (one other : bus.Bus) → one.lo ≤ other.lo → other.hi ≤ one.hi → HoldsAll one other
holds_all one other low high inverter on =
    let within = on_is other inverter on in
    is_on one inverter (omega (arith, within.0)) (omega (arith, within.1))

pub crosses_from : (one other : bus.Bus) → EndsWithin one other → Crosses one other
crosses_from one other ends = record {
  shared = (other.lo, is_on one other.lo (omega (arith, ends.0)) ends.1, is_on other other.lo (omega arith) (omega (arith, ends.1, ends.2)));
  not_outer = λ all. let within = on_is one other.hi (all other.hi (is_on other other.hi (omega (arith, ends.1, ends.2)) (omega arith))) in omega (arith, within.1, ends.2);
  not_inner = λ all. let within = on_is other one.lo (all one.lo (is_on one one.lo (omega arith) (omega (arith, ends.0, ends.1)))) in omega (arith, within.0, ends.0);
}

pub crosses_back : (one other : bus.Bus) → Crosses one other → Crosses other one
crosses_back one other crosses = record {
  shared = (crosses.shared.0, crosses.shared.2, crosses.shared.1);
  not_outer = crosses.not_inner;
  not_inner = crosses.not_outer;
}

pub ends_within_from : (one other : bus.Bus) → Crosses one other → EndsWithin one other ⊎ EndsWithin other one
ends_within_from one other crosses =
    let on_one = on_is one crosses.shared.0 crosses.shared.1 in
    let on_other = on_is other crosses.shared.0 crosses.shared.2 in
    elim (cases_lt one.lo other.lo) [
      | inl before ↦ elim (cases_lt one.hi other.hi) [
        | inl ends ↦ inl (before, (omega (arith, on_one.1, on_other.0)), ends)
        | inr outer ↦ absurd (crosses.not_outer (holds_all one other (omega arith) outer))
      ]
      | inr behind ↦ elim (cases_lt other.hi one.hi) [
        | inr inner ↦ absurd (crosses.not_inner (holds_all other one behind inner))
        | inl ends ↦ elim (cases_lt other.lo one.lo) [
          | inl first ↦ inr (first, (omega (arith, on_one.0, on_other.1)), ends)
          | inr same ↦ absurd (crosses.not_outer (holds_all one other same (omega arith)))
        ]
      ]
    ]

-- one of the buses crosses it, or none does
pub crosses_at : (its : bus.Bus) (earlier : List bus.Bus) (k : ℕ) → k < length earlier → HoldsAt (λ other. Crosses its other) earlier k → CrossesOne earlier its
crosses_at its [] k lt here = absurd (omega arith)
crosses_at its (other ∷ earlier) zero lt here = inl (here other)
crosses_at its (other ∷ earlier) (suc k) lt here = inr (crosses_at its earlier k (omega arith) here)

pub crosses_none : (its : bus.Bus) (earlier : List bus.Bus) → AllByRecursion (λ other. Crosses its other → ⊥) earlier → CrossesOne earlier its → ⊥
crosses_none its [] none crosses = crosses
crosses_none its (other ∷ earlier) none (inl crosses) = none.0 crosses
crosses_none its (other ∷ earlier) none (inr crosses) = crosses_none its earlier none.1 crosses

all_from_places : {X : Type 0} (P : X → Type 0) (xs : List X) → AllWithin P xs 0 (length xs) → AllByRecursion P xs
all_from_places P [] all = tt
all_from_places P (x ∷ xs) all = (all 0 x (omega arith) (omega arith), all_from_places P xs (λ k d low lt. all (suc k) d (omega arith) (omega arith)))

-- what a walk over the earlier buses finds
pub crosses_any : (its : bus.Bus) (earlier : List bus.Bus) (found : Bool)
    → MatchBool found ((k : ℕ) × (k < length earlier) × HoldsAt (λ other. Crosses its other) earlier k) (AllWithin (λ other. Crosses its other → ⊥) earlier 0 (length earlier))
    → (IsTrue found → CrossesOne earlier its) × (CrossesOne earlier its → IsTrue found)
crosses_any its earlier true found = (λ is. crosses_at its earlier found.0 found.1 found.2, λ crosses. refl)
crosses_any its earlier false none = (λ is. absurd (false≢true is), λ crosses. absurd (crosses_none its earlier (all_from_places (λ other. Crosses its other → ⊥) earlier none) crosses))
