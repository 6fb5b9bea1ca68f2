-- What was rated of the inverters up to a number.
use Rattle.std.proofs.Common.{◌≡◌, ℕ, ◌+◌, ◌<◌, List, [], ◌∷◌, ◌++◌, length, map, take, get_or, None, refl, sym, ap, subst, ◌∙◌}
use Rattle.std.proofs.lemmas.List.{take_more, map-append, length-map, get_or-map}
use Rattle.std.proofs.Math.Seq.{take-length}
use Rattle.plant_book.specs.declared.site.Unit as unit
use Rattle.site_config.specs.declared.inverters.Inverter.{Inverter}
use Rattle.site_config.specs.declared.points.Points.{Points}
use Rattle.site_config.specs.Checks.{first_fault, each, unit_checks}
use Rattle.site_config.specs.SiteFile.{points_of}
use Rattle.site_config.proofs.FirstFaults.{PassesUpTo, passes_more, passes_all}

pub record AreRatedUpTo (points : List Points) (n : ℕ) (units : List unit.Unit) : Type 0 where
  pub passes : PassesUpTo unit_checks points n
  pub rated : map points_of units ≡ take n points

pub AreRatedUpTo-zero : (points : List Points) → AreRatedUpTo points 0 []
AreRatedUpTo-zero points = record { passes = refl; rated = refl }

pub AreRatedUpTo-more : (all : List Points) (n : ℕ) (units : List unit.Unit) (points : Points) (unit : unit.Unit) → AreRatedUpTo all n units → n < length all
    → get_or all n points ≡ points → first_fault (unit_checks n points) ≡ None → points_of unit ≡ points → AreRatedUpTo all (n + 1) (units ++ unit ∷ [])
AreRatedUpTo-more all n units points unit before within here none is = record {
  passes = passes_more unit_checks all n points within here before.passes none;
  rated =
      map-append points_of units (unit ∷ [])
      ∙ ap (λ (front : List Points). front ++ points_of unit ∷ []) before.rated
      ∙ ap (λ (last : Points). take n all ++ last ∷ []) (is ∙ sym here)
      ∙ sym (take_more all n points within);
}

pub AreRatedUpTo-all : (points : List Points) (n : ℕ) (units : List unit.Unit) → AreRatedUpTo points n units → n ≡ length points
    → (first_fault (each unit_checks points) ≡ None) × (map points_of units ≡ points)
AreRatedUpTo-all points n units whole all = (
  passes_all unit_checks points n all whole.passes,
  whole.rated ∙ ap (λ (m : ℕ). take m points) all ∙ take-length points,
)

-- the points of the inverter at a number stand there among all points
pub points_at_number : (inverters : List Inverter) (n : ℕ) (item : Inverter) → n < length inverters → item ≡ get_or inverters n item
    → (n < length (map (λ inverter. inverter.points) inverters)) × (get_or (map (λ inverter. inverter.points) inverters) n item.points ≡ item.points)
points_at_number inverters n item within is = (
  subst (λ (m : ℕ). n < m) (sym (length-map inverters (λ inverter. inverter.points))) within,
  get_or-map (λ inverter. inverter.points) inverters n item item.points within ∙ ap (λ (i : Inverter). i.points) (sym is),
)
