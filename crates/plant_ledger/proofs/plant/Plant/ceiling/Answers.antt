use Rattle.std.proofs.Common.{sym, ap, subst, ◌∙◌}
use Rattle.plant_book.specs.Ceiling as rule
use Rattle.plant_book.specs.Part.{PartRecord, book_behind}
use Rattle.plant_book.specs.Carry.{IsBehind}
use Rattle.plant_ledger.proofs.plant.Plant.ceiling.Goals as goal

pub returns : goal.returns
returns c before is =
    let own = subst (IsBehind before) (sym c.self.view_is) is in
    c.ceiling.ensures before own ∙ ap (λ (book : PartRecord). rule.ceiling (book_behind before book)) c.self.view_is
