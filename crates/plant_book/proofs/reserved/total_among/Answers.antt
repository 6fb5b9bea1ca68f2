use Rattle.std.proofs.Common.{◌≡◌, ℕ, refl, ap, ◌∙◌, add-one, arith}
use Rattle.plant_book.specs.Sums.{sum_below}
use Rattle.plant_book.specs.Reserved as sums
use Rattle.plant_book.specs.Site.{inverters}
use Rattle.plant_book.specs.Part.{book_behind, part_first}
use Rattle.plant_book.proofs.reserved.total_among.Goals as goal

pub loop-inverter-init : goal.loop-inverter-init
unfolding sum_below
loop-inverter-init c = record { summed = λ before is. refl; below = omega arith }

pub loop-inverter-preserved : goal.loop-inverter-preserved
unfolding sum_below
loop-inverter-preserved c =
    record { summed = λ before is. rw add-one (omega (arith, c.loop-inverter.invariant.summed before is, c.reserved_among-total.ensures.watts before is)); below = omega (arith, c.loop-inverter.invariant.below, c.reserved_among-total.ensures.below) }

pub returns : goal.returns
unfolding sums.total_at
returns c before is =
    let book = c.args.book.now in
    let all : c.loop-inverter.inverter ≡ inverters book.site = omega (arith, c.loop-inverter-test.false, c.loop-inverter.auto.inverter-end, c.inverters-inverter-end.ensures) in
    c.loop-inverter.invariant.summed before is ∙ ap (λ (n : ℕ). sum_below n (sums.reserved_at (book_behind before (part_first book c.args.count)) c.args.now)) all
