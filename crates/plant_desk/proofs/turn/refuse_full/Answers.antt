use Rattle.std.proofs.Common.{None, length, arith, ap, ◌∙◌}
use Rattle.plant_book.specs.Part.{PartRecord}
use Rattle.plant_desk.proofs.turn.refuse_full.Goals as goal

pub calls_now-calls-requires-clause-holds : goal.calls_now-calls-requires-clause-holds
calls_now-calls-requires-clause-holds c = let holds = c.requires.holds in (holds.0, None, holds.1)

pub give_back-requires-clause-holds : goal.give_back-requires-clause-holds
give_back-requires-clause-holds c = let holds = c.requires.holds in (holds.0, c.calls_now-calls.ensures.same.1 ∙ holds.1, holds.2)

pub overflow_cast-result : goal.overflow_cast-result
overflow_cast-result c =
    let holds = c.requires.holds in
    omega (arith, c.calls_now-calls.ensures.calls holds.0 None holds.1, ap (λ (book : PartRecord). length book.entries) holds.2, c.requires.few)

pub returns-clause-given : goal.returns-clause-given
returns-clause-given c = λ one is. c.give_back.ensures.given one (c.calls_now-calls.ensures.same.1 ∙ is)

pub returns-clause-calls : goal.returns-clause-calls
returns-clause-calls c =
    let holds = c.requires.holds in
    omega (arith, c.calls_now-calls.ensures.calls holds.0 None holds.1, ap (λ (book : PartRecord). length book.entries) holds.2)
