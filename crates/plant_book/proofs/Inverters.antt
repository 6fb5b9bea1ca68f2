-- The numbers of an inverter of a site are those of its unit.
use Rattle.std.proofs.Common.{◌≡◌, ℕ, zero, suc, ◌+◌, List, [], ◌∷◌, length, max, map, Option, Some, refl, ap, arith}
use Rattle.std.specs.Prelude.{slice_get, fold, sum_by}
use Rattle.std.specs.Option.{option_map_or}
use Rattle.std.proofs.lemmas.List.Sums.{sum_by-append}
use Rattle.limiter_num.specs.Rating.{mw, full, rated, raw_at_most}
use Rattle.plant_book.specs.declared.site.Unit as unit
use Rattle.plant_book.specs.declared.call.Write as writes
use Rattle.plant_book.specs.Site.{SiteRecord, mw_at, floor_at, floor_raw_at, full_at, rated_at, raw_at, floors}
use Rattle.plant_book.specs.Sums.{sum_below}
use Rattle.plant_book.specs.Reserved.{covering, reserved_at}
use Rattle.plant_book.specs.Book.{BookRecord}
use Rattle.plant_book.specs.Writes.{live}

module _ (site : SiteRecord) (inverter : ℕ) (its : unit.Unit) (is : slice_get site.units inverter ≡ Some its) where
  pub mw_at-is : (raw : ℕ) → mw_at site inverter raw ≡ mw its.rating raw
  unfolding mw_at
  mw_at-is raw = ap (λ (found : Option unit.Unit). option_map_or (λ u. mw u.rating raw) found 0) is

  pub floor_at-is : floor_at site inverter ≡ mw its.rating its.floor
  unfolding floor_at
  floor_at-is = ap (λ (found : Option unit.Unit). option_map_or (λ u. mw u.rating u.floor) found 0) is

  pub floor_raw_at-is : floor_raw_at site inverter ≡ its.floor
  unfolding floor_raw_at
  floor_raw_at-is = ap (λ (found : Option unit.Unit). option_map_or (λ u. u.floor) found 0) is

  pub full_at-is : full_at site inverter ≡ full its.rating
  unfolding full_at
  full_at-is = ap (λ (found : Option unit.Unit). option_map_or (λ u. full u.rating) found 0) is

  pub rated_at-is : rated_at site inverter ≡ rated its.rating
  unfolding rated_at
  rated_at-is = ap (λ (found : Option unit.Unit). option_map_or (λ u. rated u.rating) found 0) is

  pub raw_at-is : (watts : ℕ) → raw_at site inverter watts ≡ raw_at_most its.rating watts
  unfolding raw_at
  raw_at-is watts = ap (λ (found : Option unit.Unit). option_map_or (λ u. raw_at_most u.rating watts) found 0) is

  pub covering-is : (its_writes : List writes.Write) → covering site inverter its_writes ≡ fold max (mw its.rating its.floor) (map (λ write. mw its.rating write.raw) its_writes)
  unfolding covering
  covering-is its_writes = simp (mw_at-is, floor_at-is) refl

pub reserved_at-is : (book : BookRecord) (now inverter : ℕ) (its : unit.Unit) → slice_get book.site.units inverter ≡ Some its
    → reserved_at book now inverter ≡ fold max (mw its.rating its.floor) (map (λ write. mw its.rating write.raw) (live book.site.rules book.entries now inverter))
unfolding reserved_at
reserved_at-is book now inverter its is = covering-is book.site inverter its is (live book.site.rules book.entries now inverter)

-- a sum over numbers from 0 on is that of the first and of the rest
sum_below-shift : (n : ℕ) (f : ℕ → ℕ) → sum_below (suc n) f ≡ f 0 + sum_below n (λ k. f (suc k))
unfolding sum_below
sum_below-shift zero f = omega arith
sum_below-shift (suc n) f = omega (arith, sum_below-shift n f)

-- a sum over the numbers of a list is one over the list
sum_below-of : {X : Type 0} (g : X → ℕ) (xs : List X) → sum_below (length xs) (λ k. option_map_or g (slice_get xs k) 0) ≡ sum_by g xs
unfolding sum_below
sum_below-of g [] = refl
sum_below-of g (x ∷ xs) =
    omega (arith, sum_below-shift (length xs) (λ k. option_map_or g (slice_get (x ∷ xs) k) 0), sum_below-of g xs, sum_by-append g (x ∷ []) xs)

-- the milliwatts of all floors are those of the units
pub floors-is : (site : SiteRecord) → floors site ≡ sum_by (λ u. mw u.rating u.floor) site.units
unfolding floor_at
floors-is site = sum_below-of (λ u. mw u.rating u.floor) site.units
