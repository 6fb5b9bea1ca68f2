-- Inverters that are counted one after the other.
use Rattle.std.proofs.Common.{◌≡◌, ℕ, ◌+◌, ◌*◌, ◌^◌, ◌<◌, ◌≤◌, List, [], ◌∷◌, ◌++◌, length, refl, arith, length-append}
use Rattle.std.proofs.lemmas.List.Sums.{sum_by-append}
use Rattle.limiter_num.specs.Rating.{mw}
use Rattle.plant_book.specs.declared.site.Unit as unit
use Rattle.script_text.specs.declared.size.SiteSize as sizes
use Rattle.script_text.specs.Size.{AreCounted}

pub counted_none : (cap : ℕ) → AreCounted [] (record { cap = cap; inverters = 0; floors = 0 })
counted_none cap = record { inverters_are = refl; floors_are = λ few. refl; below = λ few. omega arith }

pub below_64 : (units : List unit.Unit) (size : sizes.SiteSize) → AreCounted units size → size.inverters < 64 → size.floors ≤ 64 * (65535 * 10 ^ 12)
below_64 units size counted few =
    let less : length units < 64 = omega (arith, few, counted.inverters_are) in
    let below = counted.below (omega (arith, less)) in
    omega (arith, below, less)

-- one more, whose floor is added where there were fewer than 64
pub counted_more : (units : List unit.Unit) (one : unit.Unit) (size next : sizes.SiteSize) → AreCounted units size → next.inverters ≡ size.inverters + 1
    → (size.inverters < 64 → next.floors ≡ size.floors + mw one.rating one.floor) → mw one.rating one.floor ≤ 65535 * 10 ^ 12 → AreCounted (units ++ one ∷ []) next
counted_more units one size next counted inverters_are added most =
    let longer : length (units ++ one ∷ []) ≡ length units + 1 = length-append units (one ∷ []) in
    record {
      inverters_are = omega (arith, inverters_are, counted.inverters_are, longer);
      floors_are = λ few.
          let sum = added (omega (arith, few, longer, counted.inverters_are)) in
          let before = counted.floors_are (omega (arith, few, longer)) in
          omega (arith, sum, before, sum_by-append (λ (u : unit.Unit). mw u.rating u.floor) units (one ∷ []));
      below = λ few.
          let sum = added (omega (arith, few, longer, counted.inverters_are)) in
          let before = counted.below (omega (arith, few, longer)) in
          omega (arith, sum, before, longer, most);
    }
