use Rattle.std.proofs.Common.{◌++◌, ap, ◌∙◌, arith}
use Rattle.std.proofs.lemmas.List.Sums.{count_by-le-length}
use Rattle.plant_book.specs.Requests as counted
use Rattle.plant_book.proofs.Places.{count_by-append}
use Rattle.plant_book.proofs.Behind.{calls_of-is}
use Rattle.plant_book.proofs.requests.link_number.Goals as goal

pub returns-clause-number : goal.returns-clause-number
unfolding counted.link_number
returns-clause-number c before is =
    let own = c.links.ensures.number ∙ ap (counted.link_number c.args.inverter) c.entries.ensures in
    omega (arith, c.link_before.ensures before is, own, count_by-append (counted.is_link c.args.inverter) before c.args.book.now.entries)

pub returns-clause-below : goal.returns-clause-below
unfolding counted.link_number
returns-clause-below c =
    let part = c.args.book.now in
    let before = c.requires.book.before in
    omega (
      arith,
      calls_of-is part before c.requires.book.behind,
      returns-clause-number c before c.requires.book.behind,
      count_by-le-length (counted.is_link c.args.inverter) (before ++ part.entries),
    )
