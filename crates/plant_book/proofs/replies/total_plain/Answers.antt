use Rattle.std.proofs.Common.{ap, ◌∙◌}
use Rattle.plant_book.specs.Reserved as sums
use Rattle.plant_book.specs.Part.{book_behind}
use Rattle.plant_book.proofs.Behind.{last_moment_of-is}
use Rattle.plant_book.proofs.replies.total_plain.Goals as goal

pub returns : goal.returns
returns c before is =
    let whole = book_behind before c.args.book.now in
    c.total_at.ensures before is ∙ ap (sums.total_at whole) (c.latest.ensures ∙ last_moment_of-is c.args.book.now before is)
