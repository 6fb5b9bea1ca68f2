use Rattle.std.proofs.Common.{◌≡◌, None, refl, sym, ap, ◌∙◌}
use Rattle.plant_book.specs.Sums.{last_that}
use Rattle.plant_book.specs.Part.{PartRecord}
use Rattle.plant_book.proofs.Behind.{nothing_before}
use Rattle.plant_book.proofs.before.mark_before.Goals as goal

pub returns-in-None : goal.returns-in-None
unfolding last_that
returns-in-None c before is =
    let part = c.args.book.now in
    let none : part.carry ≡ None = sym (ap (λ (p : PartRecord). p.carry) c.book.view_is) ∙ c.in-None.is in
    rw (nothing_before part before is none) refl
