-- The lines of the inverters up to a number.
use Rattle.std.proofs.Common.{◌≡◌, ℕ, ◌+◌, ◌<◌, List, [], ◌++◌, length, take, get_or, sym, ap, subst, ◌∙◌, zero-add}
use Rattle.std.specs.List.{flat_map, enumerate_from}
use Rattle.std.proofs.lemmas.List.{take_more, flat_map_more}
use Rattle.std.proofs.lemmas.List.FromFn.{length-enumerate_from, get_or-enumerate_from}
use Rattle.std.proofs.Math.Seq.{take-length}
use Rattle.plant_book.specs.declared.site.Unit as unit
use Rattle.site_config.specs.Summary.{inverter_line, inverter_lines}

-- the lines of the inverters below a number
abbrev pub lines_below : ℕ → List unit.Unit → List ℕ
lines_below n units = flat_map (λ entry. inverter_line entry.0 entry.1) (take n (enumerate_from 0 units))

abbrev line : ℕ × unit.Unit → List ℕ
line entry = inverter_line entry.0 entry.1

pub lines_below-more : (units : List unit.Unit) (n : ℕ) (its : unit.Unit) → n < length units → its ≡ get_or units n its → lines_below (n + 1) units ≡ lines_below n units ++ inverter_line n its
lines_below-more units n its within is =
    let inside : n < length (enumerate_from 0 units) = subst (λ (m : ℕ). n < m) (sym (length-enumerate_from 0 units)) within in
    ap (flat_map line) (take_more (enumerate_from 0 units) n (n, its) inside)
    ∙ sym (flat_map_more line [] (take n (enumerate_from 0 units)) (get_or (enumerate_from 0 units) n (n, its)))
    ∙ ap (λ (entry : ℕ × unit.Unit). lines_below n units ++ line entry) (get_or-enumerate_from 0 units n (n, its) within)
    ∙ ap (λ (m : ℕ). lines_below n units ++ inverter_line m (get_or units n its)) (zero-add n)
    ∙ ap (λ (u : unit.Unit). lines_below n units ++ inverter_line n u) (sym is)

pub lines_below-all : (units : List unit.Unit) (n : ℕ) → n ≡ length units → lines_below n units ≡ inverter_lines units
lines_below-all units n all =
    ap (λ (m : ℕ). lines_below m units) (all ∙ sym (length-enumerate_from 0 units))
    ∙ ap (flat_map (λ entry. inverter_line entry.0 entry.1)) (take-length (enumerate_from 0 units))
