use Rattle.std.proofs.Common.{arith, ◌∙◌, length-append}
use Rattle.plant_book.specs.Life.{entries_of}
use Rattle.plant_desk.specs.Deeds.{life_of}
use Rattle.plant_desk.proofs.turn.calls_now.Goals as goal

pub overflow_sub-result : goal.overflow_sub-result
overflow_sub-result c =
    let holds = c.requires.holds in
    let one = holds.0 in
    let life = life_of one.plant one.seen in
    let same = c.front_now-front.ensures.same.1 in
    omega (arith, c.front_now-front.ensures.front one holds.1 holds.2, c.base_now-base.ensures.base one holds.1 (same ∙ holds.2), length-append (entries_of life.ended) life.last.entries)

pub returns-clause-calls : goal.returns-clause-calls
returns-clause-calls c = λ one slot is.
    let life = life_of one.plant one.seen in
    let same = c.front_now-front.ensures.same.1 in
    omega (arith, c.front_now-front.ensures.front one slot is, c.base_now-base.ensures.base one slot (same ∙ is), length-append (entries_of life.ended) life.last.entries)
