use Rattle.std.proofs.Common.{arith}
use Rattle.plant_book.specs.Part.{book_behind}
use Rattle.plant_book.proofs.CapInForce.{cap_within}
use Rattle.plant_ledger.proofs.ledger.Ledger.cap.Goals as goal

pub returns-clause-high : goal.returns-clause-high
returns-clause-high c =
    let before = c.self.invariant.numbers.of_life.before in
    let behind = c.self.invariant.numbers.of_life.behind in
    omega (arith, (c.self.invariant.numbers.each before behind).in_force, (cap_within (book_behind before c.self.inside.book) behind.book).high, behind.book.openable.checked.cap)
