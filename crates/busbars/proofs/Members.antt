-- Sums over the members of a bus.
use Rattle.std.proofs.Common.{◌≡◌, ℕ, zero, suc, ◌+◌, ◌-◌, ◌<◌, ◌≤◌, true, cond, List, None, length, ◌^◌, add-one, refl, sym, ap, ◌∙◌, arith, inl, inr}
use Rattle.std.specs.Prelude.{slice_index, slice_set}
use Rattle.std.proofs.lemmas.List.{get_or-set_same, get_or-set_other}
use Rattle.std.proofs.lemmas.Bool.{cases_Bool, cases_eq}
use Rattle.plant_book.specs.Sums.{sum_below}
use Rattle.plant_book.specs.Site.{SiteRecord, inverters}
use Rattle.plant_book.proofs.Maxima.{sum_below_le, sum_below_raise}
use Rattle.plant_book.specs.Reserved.{reserved, total_at, now_of}
use Rattle.plant_book.specs.Part.{PartRecord, first_book}
use Rattle.plant_book.proofs.Behind.{behind_nothing}
use Rattle.plant_book.proofs.Cap.{total_at-capped}
use Rattle.plant_ledger.specs.Plant.{IsKept}
use Rattle.busbars.specs.declared.bus.Bus as bus
use Rattle.busbars.specs.Buses.{holds, sum_of_members, IsOfSite}
use Rattle.busbars.specs.Sums.{AreSums}
use Rattle.busbars.proofs.Nesting.{is_on, on_is}

-- a sum over more numbers is no less
pub sum_below_grows : (n m : ℕ) (f : ℕ → ℕ) → n ≤ m → sum_below n f ≤ sum_below m f
unfolding sum_below
sum_below_grows n zero f le = omega (arith, ap (λ (k : ℕ). sum_below k f) (none n le))
  where
    none : (k : ℕ) → k ≤ 0 → k ≡ 0
    none k le = omega arith
sum_below_grows n (suc m) f le =
    elim (cases_eq n (suc m)) [
      | inl all ↦ omega (arith, ap (λ (k : ℕ). sum_below k f) all)
      | inr fewer ↦ omega (arith, sum_below_grows n m f (omega arith))
    ]

module _ (b : bus.Bus) (number : ℕ → ℕ) where
  -- the number of a member, and 0 of any other inverter
  abbrev of_member : ℕ → ℕ
  of_member inverter = cond (holds b inverter) (number inverter) 0

  member : (inverter : ℕ) → b.lo ≤ inverter → inverter ≤ b.hi → of_member inverter ≡ number inverter
  member inverter low high = let on = is_on b inverter low high in rw on refl

  no_member : (inverter : ℕ) → ((b.lo ≤ inverter) × (inverter ≤ b.hi) → ⊥) → of_member inverter ≡ 0
  no_member inverter out =
      elim (cases_Bool (holds b inverter)) [
        | inl on ↦ absurd (out (on_is b inverter on))
        | inr off ↦ rw off refl
      ]

  sum_before : (n : ℕ) → n ≤ b.lo → sum_below n of_member ≡ 0
  unfolding sum_below
  sum_before zero le = refl
  sum_before (suc n) le = omega (arith, sum_before n (omega arith), no_member n (λ within. omega (arith, within.0)))

  sum_within : (n : ℕ) → b.lo ≤ n → n ≤ b.hi + 1 → sum_below n of_member + sum_below b.lo number ≡ sum_below n number
  unfolding sum_below
  sum_within zero low high = omega (arith, sum_before 0 (omega arith), ap (λ (k : ℕ). sum_below k number) (none b.lo low))
    where
      none : (k : ℕ) → k ≤ 0 → k ≡ 0
      none k le = omega arith
  sum_within (suc n) low high =
      elim (cases_eq b.lo (suc n)) [
        | inl first ↦ omega (arith, sum_before (suc n) (omega (arith, first)), ap (λ (k : ℕ). sum_below k number) first)
        | inr later ↦ omega (arith, sum_within n (omega arith) (omega arith), member n (omega arith) (omega arith))
      ]

  sum_behind : (n : ℕ) → b.hi + 1 ≤ n → sum_below n of_member ≡ sum_below (b.hi + 1) of_member
  unfolding sum_below
  sum_behind zero high = absurd (omega arith)
  sum_behind (suc n) high =
      elim (cases_eq (b.hi + 1) (suc n)) [
        | inl last ↦ ap (λ (k : ℕ). sum_below k of_member) (sym last)
        | inr more ↦ omega (arith, sum_behind n (omega arith), no_member n (λ within. omega (arith, within.1, more)))
      ]

  -- the sum over the members is a difference of two sums over the first inverters
  pub sum_is : (site : SiteRecord) (sums : List ℕ) → AreSums (inverters site) number sums → IsOfSite site b → slice_index sums (b.hi + 1) - slice_index sums b.lo ≡ sum_of_members site b number
  sum_is site sums are of_site =
      omega (
        arith,
        are (b.hi + 1) (omega (arith, of_site.1)),
        are b.lo (omega (arith, of_site.0, of_site.1)),
        sum_behind (inverters site) (omega (arith, of_site.1)),
        sum_within (b.hi + 1) (omega (arith, of_site.0)) (omega arith),
      )

-- it is no less up to a later inverter
pub sums_rise : (count : ℕ) (number : ℕ → ℕ) (sums : List ℕ) → AreSums count number sums → (n m : ℕ) → n ≤ m → m ≤ count → slice_index sums n ≤ slice_index sums m
sums_rise count number sums are n m le within = omega (arith, are n (omega arith), are m within, sum_below_grows n m number le)

-- a sum over members is no greater where the number of each is no greater
pub members_le : (site : SiteRecord) (b : bus.Bus) (f g : ℕ → ℕ) → ((k : ℕ) → k < inverters site → holds b k ≡ true → f k ≤ g k) → sum_of_members site b f ≤ sum_of_members site b g
members_le site b f g le =
    sum_below_le (inverters site) (λ k. cond (holds b k) (f k) 0) (λ k. cond (holds b k) (g k) 0)
    (λ k lt. elim (cases_Bool (holds b k)) [ inl on ↦ rw on (le k lt on) | inr off ↦ rw off (omega arith) ])

-- where the number of one inverter grows by at most d and no other grows, so does the sum
pub members_raise : (site : SiteRecord) (b : bus.Bus) (i d : ℕ) (f g : ℕ → ℕ) → ((k : ℕ) → (k ≡ i → ⊥) → f k ≤ g k) → f i ≤ g i + d → sum_of_members site b f ≤ sum_of_members site b g + d
members_raise site b i d f g others one =
    sum_below_raise (inverters site) i d (λ k. cond (holds b k) (f k) 0) (λ k. cond (holds b k) (g k) 0)
    (λ k other. elim (cases_Bool (holds b k)) [ inl on ↦ rw on (others k other) | inr off ↦ rw off (omega arith) ])
    (elim (cases_Bool (holds b i)) [ inl on ↦ rw on one | inr off ↦ rw off (omega arith) ])

-- the sums of no inverter, and of one more
pub no_sum : (number : ℕ → ℕ) → 0 ≡ sum_below 0 number
unfolding sum_below
no_sum number = refl

pub sum_more : (count : ℕ) (number : ℕ → ℕ) → sum_below (count + 1) number ≡ sum_below count number + number count
unfolding sum_below
sum_more count number = ap (λ (k : ℕ). sum_below k number) (add-one count)

-- sums of the same numbers are the same
pub sum_below_same : (n : ℕ) (f g : ℕ → ℕ) → ((k : ℕ) → f k ≡ g k) → sum_below n f ≡ sum_below n g
unfolding sum_below
sum_below_same zero f g same = refl
sum_below_same (suc n) f g same = omega (arith, sum_below_same n f g same, same n)

pub sums_push : (count : ℕ) (number : ℕ → ℕ) (sums : List ℕ) (one : ℕ) → AreSums count number sums → count + 1 < length sums → one ≡ number count
    → AreSums (count + 1) number (slice_set sums (count + 1) (slice_index sums count + one))
sums_push count number sums one are within is below le =
    elim (cases_eq below (count + 1)) [
      | inl last ↦
          omega (
            arith,
            ap (λ (k : ℕ). slice_index (slice_set sums (count + 1) (slice_index sums count + one)) k) last,
            get_or-set_same sums (count + 1) (slice_index sums count + one) 0 within,
            are count (omega arith),
            ap (λ (k : ℕ). sum_below k number) last,
            sum_more count number,
            is,
          )
      | inr other ↦ get_or-set_other sums (count + 1) below (slice_index sums count + one) 0 other ∙ are below (omega arith)
    ]

-- what the first inverters of a plant have reserved
pub reserved_low : (plant : PartRecord) → IsKept plant → plant.carry ≡ None → (n : ℕ) → n ≤ inverters plant.site → sum_below n (reserved (first_book plant)) ≤ 10 ^ 14
unfolding total_at
reserved_low plant kept first n le =
    let book = first_book plant in
    let is = (behind_nothing plant kept.of_life first).book in
    omega (arith, total_at-capped book is (now_of book) (omega arith), is.openable.checked.cap, sum_below_grows n (inverters plant.site) (reserved book) le)

pub few_inverters : (plant : PartRecord) → IsKept plant → plant.carry ≡ None → inverters plant.site ≤ 64
few_inverters plant kept first = (behind_nothing plant kept.of_life first).book.openable.few
