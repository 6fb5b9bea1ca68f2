use Rattle.std.proofs.Common.{◌≡◌, Some, sym, ap, ◌∙◌}
use Rattle.plant_book.specs.Part.{CarryRecord, PartRecord}
use Rattle.plant_book.proofs.Behind.{found_unit}
use Rattle.plant_book.proofs.before.unit_before.Goals as goal

pub returns-in-Some : goal.returns-in-Some
returns-in-Some c before is =
    let part = c.args.book.now in
    let has : part.carry ≡ Some c.in-Some.carry = sym (ap (λ (p : PartRecord). p.carry) c.book.view_is) ∙ c.in-Some.is in
    let units : c.deref.result.now ≡ c.in-Some.carry.units = c.deref.ensures.value ∙ ap (λ (k : CarryRecord). k.units) c.carry.view_is in
    let some = rw (units, c.from.ensures) at c.get.ensures.lookup.0 in
    let at = rw (units, c.from.ensures) at c.get.ensures.lookup.1 in
    found_unit (λ x. x.now) c.get.result part before c.in-Some.carry c.args.inverter is has c.requires some at
