use Rattle.std.proofs.Common.{arith}
use Rattle.plant_book.specs.Caps as rule
use Rattle.plant_book.specs.Part.{book_behind}
use Rattle.plant_book.proofs.CapInForce.{cap_within}
use Rattle.plant_book.proofs.caps.cap_plain.Goals as goal

pub returns-clause-cap : goal.returns-clause-cap
unfolding rule.cap_of
returns-clause-cap c before is = rw (← c.entries.ensures) (c.cap_from.ensures c.args.book.now.site.cap before (c.cap_before.ensures before is))

pub returns-clause-high : goal.returns-clause-high
returns-clause-high c =
    let behind = c.requires.behind in
    let whole = book_behind c.requires.before c.args.book.now in
    omega (arith, returns-clause-cap c c.requires.before behind, (cap_within whole behind.book).high)
