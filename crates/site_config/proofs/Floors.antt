-- The floors of inverters that are judged one after the other.
use Rattle.std.proofs.Common.{◌≡◌, ℕ, ◌+◌, ◌*◌, ◌^◌, ◌<◌, ◌≤◌, List, [], ◌∷◌, ◌++◌, length, map, get_or, Some, None, Result, Ok, Err, refl, sym, ap, subst, ◌∙◌, arith}
use Rattle.std.specs.Prelude.{sum_by, IfOk, MatchResult}
use Rattle.std.specs.Option.{option_or}
use Rattle.std.proofs.lemmas.List.{length-map, get_or-map}
use Rattle.std.proofs.lemmas.List.Sums.{sum_by-append}
use Rattle.limiter_num.specs.Rating.{mw}
use Rattle.toml.specs.Data.{Members}
use Rattle.plant_book.specs.declared.site.Unit as unit
use Rattle.site_config.specs.declared.fault.SiteFault.{SiteFault}
use Rattle.site_config.specs.declared.points.Points.{Points}
use Rattle.site_config.specs.Keys.{points_at}
use Rattle.site_config.specs.Checks.{first_fault, each, inverter_checks, unit_checks}
use Rattle.site_config.specs.SiteFile.{points_of}
use Rattle.site_config.specs.Reading.{AddsFloor, JudgesInverters}
use Rattle.site_config.proofs.FirstFaults.{PassesUpTo, passes_more, passes_all, fault_at}
use Rattle.site_config.proofs.ReadUnits.{AreRatedUpTo, AreRatedUpTo-zero, AreRatedUpTo-more, AreRatedUpTo-all}

abbrev floor_of : unit.Unit → ℕ
floor_of unit = mw unit.rating unit.floor

-- the floors of the inverters up to a number, or the first fault of a rating or a floor
abbrev pub FlooredUpTo : List Points → ℕ → Result ℕ SiteFault → Type 0
FlooredUpTo points n (Ok sum) = (units : List unit.Unit) × AreRatedUpTo points n units × (sum ≡ sum_by floor_of units) × (sum ≤ n * (65535 * 10 ^ 12))
FlooredUpTo points n (Err fault) = first_fault (each unit_checks points) ≡ Some fault

pub floored_none : (points : List Points) → FlooredUpTo points 0 (Ok 0)
floored_none points = ([], AreRatedUpTo-zero points, refl, omega arith)

pub floored_more : (points : List Points) (n : ℕ) (here : Points) (floors next : Result ℕ SiteFault) (found : Result unit.Unit SiteFault) → n < length points → get_or points n here ≡ here → FlooredUpTo points n floors
    → MatchResult found (λ _. first_fault (unit_checks n here) ≡ None) (λ fault. first_fault (unit_checks n here) ≡ Some fault) → IfOk found (λ unit. points_of unit ≡ here) → AddsFloor floors found next → FlooredUpTo points (n + 1) next
floored_more points n here (Ok sum) next (Ok its) within at before none is adds =
    let units : List unit.Unit = before.0 in
    let added : sum + floor_of its ≡ sum_by floor_of (units ++ its ∷ []) = omega (arith, before.2, sum_by-append floor_of units (its ∷ [])) in
    let below : sum + floor_of its ≤ (n + 1) * (65535 * 10 ^ 12) = omega (arith, before.3, adds.1) in
    subst (FlooredUpTo points (n + 1)) (sym adds.0) (units ++ its ∷ [], AreRatedUpTo-more points n units here its before.1 within at none is, added, below)
floored_more points n here (Ok sum) next (Err fault) within at before found is adds =
    subst (FlooredUpTo points (n + 1)) (sym adds) (fault_at unit_checks points n here fault within at before.1.passes found)
floored_more points n here (Err fault) next found within at before judged is adds = subst (FlooredUpTo points (n + 1)) (sym adds) before

-- what is true of the tables up to a number
pub record JudgedUpTo (tables : List Members) (n : ℕ) (floors : Result ℕ SiteFault) : Type 0 where
  pub passes : PassesUpTo inverter_checks tables n
  pub floors_are : FlooredUpTo (map points_at tables) n floors

pub judged_none : (tables : List Members) → JudgedUpTo tables 0 (Ok 0)
judged_none tables = record { passes = refl; floors_are = floored_none (map points_at tables) }

pub judged_more : (tables : List Members) (n : ℕ) (table : Members) (floors next : Result ℕ SiteFault) (found : Result unit.Unit SiteFault) → n < length tables → get_or tables n table ≡ table → JudgedUpTo tables n floors
    → first_fault (inverter_checks n table) ≡ None → MatchResult found (λ _. first_fault (unit_checks n (points_at table)) ≡ None) (λ fault. first_fault (unit_checks n (points_at table)) ≡ Some fault)
    → IfOk found (λ unit. points_of unit ≡ points_at table) → AddsFloor floors found next → JudgedUpTo tables (n + 1) next
judged_more tables n table floors next found within here before none judged is adds = record {
  passes = passes_more inverter_checks tables n table within here before.passes none;
  floors_are =
      let inside : n < length (map points_at tables) = subst (λ (m : ℕ). n < m) (sym (length-map tables points_at)) within in
      let at : get_or (map points_at tables) n (points_at table) ≡ points_at table = get_or-map points_at tables n table (points_at table) within ∙ ap points_at here in
      floored_more (map points_at tables) n (points_at table) floors next found inside at before.floors_are judged is adds;
}

pub judged_all : (tables : List Members) (n : ℕ) (floors : Result ℕ SiteFault) → JudgedUpTo tables n floors → n ≡ length tables → JudgesInverters tables floors
judged_all tables n (Ok sum) judged all =
    let units = judged.floors_are in
    let rated = AreRatedUpTo-all (map points_at tables) n units.0 units.1 (all ∙ sym (length-map tables points_at)) in
    (passes_all inverter_checks tables n all judged.passes, rated.0, record { units = units.0; points_are = rated.1; sum_is = units.2 })
judged_all tables n (Err fault) judged all =
    ap (λ o. option_or o (first_fault (each unit_checks (map points_at tables)))) (passes_all inverter_checks tables n all judged.passes) ∙ judged.floors_are

pub floors_small : (tables : List Members) (n : ℕ) (floors : Result ℕ SiteFault) → JudgedUpTo tables n floors → n < 64 → IfOk floors (λ sum. sum ≤ 63 * (65535 * 10 ^ 12))
floors_small tables n (Ok sum) judged few = omega (arith, judged.floors_are.3, few)
floors_small tables n (Err fault) judged few = tt
