use Rattle.std.proofs.Common.{◌≡◌, map, ap, sym, subst, ◌∙◌}
use Rattle.plant_book.specs.Part.{book_behind}
use Rattle.plant_book.specs.Carry.{units_of, EachBook}
use Rattle.plant_book.proofs.Behind.{last_moment_of-is}
use Rattle.plant_ledger.specs.Account.{unit_by}
use Rattle.plant_ledger.specs.Ledger.{LedgerRecord, IsAtLast}
use Rattle.plant_ledger.proofs.Running.{if_ok, units_are}
use Rattle.plant_ledger.proofs.ledger.Ledger.units.Goals as goal

pub returns : goal.returns
returns c =
    let inside = c.self.inside in
    let at_last : IsAtLast (record { book = inside.book; at = inside.moment }) = subst IsAtLast (sym c.self.view_is) c.requires in
    if_ok c.units_by.result _ _
    (λ units is. subst (λ (ledger : LedgerRecord). EachBook ledger.book (λ whole. units.items ≡ units_of whole)) c.self.view_is
    (λ before own.
    is ∙ ap (map unit_by) c.deref.ensures.value
    ∙ units_are (book_behind before inside.book) inside.moment inside.accounts.items (at_last.last ∙ last_moment_of-is inside.book before own) (c.self.invariant.numbers.each before own).of_inverters))
    c.units_by.ensures
