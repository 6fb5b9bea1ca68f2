use Rattle.std.proofs.Common.{[], Some, sym, subst, ap, ◌∙◌}
use Rattle.plant_book.specs.Part.{PartRecord}
use Rattle.plant_ledger.specs.Plant.{Rolls}
use Rattle.plant_ledger.proofs.Lives.{rolls}
use Rattle.plant_ledger.proofs.Running.{if_ok}
use Rattle.plant_ledger.proofs.rolling.book_after.Goals as goal

pub returns : goal.returns
returns c =
    let part = c.args.ledger.now.book in
    let with_carry : PartRecord → PartRecord = λ book. record { site = book.site; start = book.start; carry = Some c.in_ok-carry.carry; entries = [] } in
    if_ok c.empty_book.result _ _
    (λ next is. λ before behind. subst (λ (b : PartRecord). Rolls before part b) (sym (is ∙ ap with_carry c.book.ensures.book)) (rolls part before c.in_ok-carry.carry behind (c.in_ok-carry.ensures before behind)))
    c.empty_book.ensures
