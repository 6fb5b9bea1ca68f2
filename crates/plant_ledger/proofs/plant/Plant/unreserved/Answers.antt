use Rattle.std.proofs.Common.{◌≡◌, ℕ, sym, ap, subst, ◌∙◌}
use Rattle.plant_book.specs.Reserved as sums
use Rattle.plant_book.specs.Part.{PartRecord, book_behind}
use Rattle.plant_book.specs.Carry.{IsBehind}
use Rattle.plant_book.proofs.Behind.{last_moment_of-is}
use Rattle.plant_ledger.proofs.plant.Plant.unreserved.Goals as goal

pub returns : goal.returns
returns c before is =
    let ledger = c.self.inside.ledger in
    let own = subst (IsBehind before) (sym c.self.view_is) is in
    let whole = book_behind before ledger.book in
    let last : ledger.at ≡ sums.now_of whole = c.self.invariant.last ∙ last_moment_of-is ledger.book before own in
    c.unreserved.ensures.watts before own ∙ ap (λ (n : ℕ). sums.unreserved_at whole n) last ∙ ap (λ (book : PartRecord). sums.unreserved (book_behind before book)) c.self.view_is
