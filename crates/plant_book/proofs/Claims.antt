-- The claims of the inverters of a plant are feasible.
use Rattle.std.proofs.Common.{◌≡◌, ℕ, zero, suc, ◌+◌, ◌*◌, ◌≤◌, Bool, true, false, cond, leb, List, inl, inr, map, Option, Some, None, refl, ap, ◌∙◌, arith, ℤ}
use Rattle.std.specs.Prelude.{sum_by}
use Rattle.std.specs.List.{range_with_len, AllByRecursion}
use Rattle.std.specs.Option.{option_map_or}
use Rattle.std.proofs.lemmas.Bool.{cases_Bool, leb-true, le-leb}
use Rattle.std.proofs.lemmas.List.FromFn.{length-map-range_with_len, sum_by-map-range_with_len_more}
use Rattle.std.proofs.Math.Nat.{mul-le-mul_left}
use Rattle.std.proofs.Math.Numerals.{add-one}
use Rattle.limiter_num.specs.Milliwatts.{mw_of, power_of}
use Rattle.limiter_num.proofs.Scaled.{scaled_up_times}
use Rattle.plant_book.specs.declared.site.Unit.{Unit}
use Rattle.share_policy.specs.declared.claim.Claim.{Claim}
use Rattle.plant_book.specs.Sums.{sum_below}
use Rattle.plant_book.specs.Site.{SiteRecord, inverters, floor_at, rated_at, floors}
use Rattle.plant_book.specs.Book.{BookRecord}
use Rattle.plant_book.specs.Caps.{cap_of}
use Rattle.plant_book.specs.Answered.{IsBook}
use Rattle.plant_book.specs.Policy.{is_strange, trusted, claim_of, claims, fall_claim, fall_claims, fall_share}
use Rattle.share_policy.specs.Claims.{rated_max, IsFeasible}
use Rattle.share_policy.specs.Shares.{share_at, level_of}
use Rattle.share_policy.proofs.Totals.{shares_at_zero}
use Rattle.limiter_num.specs.Greatest.{greatest_up_to}
use Rattle.plant_book.proofs.CapInForce.{cap_within}

-- a greater raw percentage stands for no fewer milliwatts
mw_of-mono : (wmax : ℕ) (wsf psf : ℤ) (low high : ℕ) → low ≤ high → mw_of wmax wsf psf low ≤ mw_of wmax wsf psf high
unfolding mw_of
mw_of-mono wmax wsf psf low high le = omega (arith, scaled_up_times 1 (wmax * high) (wmax * low) (power_of wsf psf) (omega (arith, mul-le-mul_left wmax le)))

-- a number of an inverter is bounded where it is so for each unit
number_le : (f g : Unit → ℕ) → ((unit : Unit) → f unit ≤ g unit) → (found : Option Unit) → option_map_or f found 0 ≤ option_map_or g found 0
number_le f g le None = omega arith
number_le f g le (Some unit) = le unit

number_at_most : (f : Unit → ℕ) (most : ℕ) → ((unit : Unit) → f unit ≤ most) → (found : Option Unit) → option_map_or f found 0 ≤ most
number_at_most f most le None = omega arith
number_at_most f most le (Some unit) = le unit

floor_at-le : (site : SiteRecord) (inverter : ℕ) → floor_at site inverter ≤ rated_at site inverter
unfolding floor_at rated_at
floor_at-le site inverter = number_le _ _ (λ unit. mw_of-mono unit.rating.wmax unit.rating.wsf unit.rating.psf unit.floor _ unit.within) _

rated_at-le : (site : SiteRecord) (inverter : ℕ) → rated_at site inverter ≤ rated_max
unfolding rated_at
rated_at-le site inverter = number_at_most _ rated_max (λ unit. unit.rating.sound.rated_small) _

-- the rating that the policy goes by is no less than the floor and no greater than the rating
trusted_low : (book : BookRecord) (inverter : ℕ) → floor_at book.site inverter ≤ trusted book inverter
unfolding trusted
trusted_low book inverter =
    elim (is_strange inverter book.entries) as (λ strange. floor_at book.site inverter ≤ cond strange (floor_at book.site inverter) (rated_at book.site inverter)) [
      | true ↦ omega arith
      | false ↦ floor_at-le book.site inverter
    ]

trusted_high : (book : BookRecord) (inverter : ℕ) → trusted book inverter ≤ rated_max
unfolding trusted
trusted_high book inverter =
    elim (is_strange inverter book.entries) as (λ strange. cond strange (floor_at book.site inverter) (rated_at book.site inverter) ≤ rated_max) [
      | true ↦ omega (arith, floor_at-le book.site inverter, rated_at-le book.site inverter)
      | false ↦ rated_at-le book.site inverter
    ]

-- what holds of each inverter's claim holds of all claims
pub All-range : {X : Type 0} (P : X → Type 0) (first count : ℕ) (f : ℕ → X) → ((number : ℕ) → P (f number)) → AllByRecursion P (map f (range_with_len first count))
All-range P first zero f each = tt
All-range P first (suc count) f each = (each first, All-range P (first + 1) count f each)

-- a sum over the claims is one over the inverters
pub sum_by-range : {X : Type 0} (g : X → ℕ) (f : ℕ → X) (count : ℕ) → sum_by g (map f (range_with_len 0 count)) ≡ sum_below count (λ number. g (f number))
unfolding sum_below
sum_by-range g f zero = refl
sum_by-range g f (suc count) =
    let more = sum_by-map-range_with_len_more g f 0 count count (omega arith) in
    let step = rw add-one at more in
    step ∙ ap (λ (total : ℕ). total + g (f count)) (sum_by-range g f count)

pub claims-feasible : (book : BookRecord) → IsBook book → IsFeasible (cap_of book) (claims book)
unfolding claims
claims-feasible book kept =
    let count = inverters book.site in
    record {
      few = omega (arith, length-map-range_with_len (claim_of book) 0 count, kept.openable.few);
      sound = All-range (λ (claim : Claim). claim.floor ≤ claim.rated) 0 count (claim_of book) (trusted_low book);
      rated = All-range (λ (claim : Claim). claim.rated ≤ rated_max) 0 count (claim_of book) (trusted_high book);
      floors = omega (arith, sum_by-range (λ (claim : Claim). claim.floor) (claim_of book) count, (cap_within book kept).low);
    }

pub fall_claims-feasible : (book : BookRecord) → IsBook book → IsFeasible (cap_of book) (fall_claims book.site)
unfolding fall_claims
fall_claims-feasible book kept =
    let site = book.site in
    let count = inverters site in
    record {
      few = omega (arith, length-map-range_with_len (fall_claim site) 0 count, kept.openable.few);
      sound = All-range (λ (claim : Claim). claim.floor ≤ claim.rated) 0 count (fall_claim site) (floor_at-le site);
      rated = All-range (λ (claim : Claim). claim.rated ≤ rated_max) 0 count (fall_claim site) (rated_at-le site);
      floors = omega (arith, sum_by-range (λ (claim : Claim). claim.floor) (fall_claim site) count, (cap_within book kept).low);
    }

-- the greatest number that passes does so, where 0 does
greatest_passes : (n : ℕ) (test : ℕ → Bool) → test 0 ≡ true → test (greatest_up_to n test) ≡ true
unfolding greatest_up_to
greatest_passes zero test first = first
greatest_passes (suc n) test first =
    elim (cases_Bool (test (suc n))) [
      | inl passes ↦ rw passes passes
      | inr fails ↦ rw fails (greatest_passes n test first)
    ]

-- the shares at the level fit under the cap where the floors do
level_fits : (cap : ℕ) (all : List Claim) → sum_by (λ claim. claim.floor) all ≤ cap → sum_by (share_at (level_of cap all)) all ≤ cap
unfolding level_of
level_fits cap all floors =
    leb-true (sum_by (share_at (level_of cap all)) all) cap
    (greatest_passes cap (λ level. leb (sum_by (share_at level) all) cap) (le-leb (sum_by (share_at 0) all) cap (omega (arith, shares_at_zero all, floors))))

-- the fall shares under a cap sum to at most it, where the floors do
pub fall_shares-fit : (site : SiteRecord) (cap : ℕ) → floors site ≤ cap → sum_below (inverters site) (fall_share site cap) ≤ cap
unfolding fall_share fall_claims
fall_shares-fit site cap fits =
    let count = inverters site in
    let level = level_of cap (map (fall_claim site) (range_with_len 0 count)) in
    omega (
      arith,
      sum_by-range (share_at level) (fall_claim site) count,
      level_fits cap (map (fall_claim site) (range_with_len 0 count)) (omega (arith, sum_by-range (λ (claim : Claim). claim.floor) (fall_claim site) count, fits)),
    )

-- a fall share is no less than the floor
pub floor_le_fall_share : (site : SiteRecord) (cap inverter : ℕ) → floor_at site inverter ≤ fall_share site cap inverter
unfolding fall_share share_at
floor_le_fall_share site cap inverter = omega arith
