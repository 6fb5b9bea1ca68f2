use Rattle.std.proofs.Common.{ℕ, ap, ◌∙◌}
use Rattle.plant_book.specs.Reserved as sums
use Rattle.plant_book.specs.Part.{book_behind}
use Rattle.plant_book.proofs.Behind.{last_moment_of-is}
use Rattle.plant_book.proofs.replies.reserved_plain.Goals as goal

pub returns-clause-watts : goal.returns-clause-watts
returns-clause-watts c before is =
    let whole = book_behind before c.args.book.now in
    c.reserved_at.ensures.watts before is ∙ ap (λ (now : ℕ). sums.reserved_at whole now c.args.inverter) (c.latest.ensures ∙ last_moment_of-is c.args.book.now before is)
