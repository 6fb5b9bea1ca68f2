use Rattle.std.proofs.Common.{List, ℕ, subst}
use Rattle.operator_console.specs.Handling.{HasReturn}
use Rattle.operator_console.proofs.Ending.{lasts}
use Rattle.operator_console.proofs.Taking.{handled_reads, held_ends, held_goes_on}
use Rattle.operator_console.proofs.lines.follow_held.Goals as goal

pub returns-clause-goes_on : goal.returns-clause-goes_on
returns-clause-goes_on g c =
    let P : List ℕ → Type 0 = λ l. HasReturn l c.without_return-line.result.now in
    held_goes_on c.follow_line-followed.result _ _ _ _ _ _ _ _ _ _ _ (lasts _ _ _ c.follow_line-followed.ensures.last)
    (subst P c.deref.ensures.value c.without_return-line.ensures) c.clear.ensures.items c.follow_line-followed.ensures.handled

pub returns-clause-ends : goal.returns-clause-ends
returns-clause-ends g c =
    let P : List ℕ → Type 0 = λ l. HasReturn l c.without_return-line.result.now in
    held_ends c.follow_line-followed.result _ _ _ _ _ _ _ _ _ _ (lasts _ _ _ c.follow_line-followed.ensures.last)
    (subst P c.deref.ensures.value c.without_return-line.ensures) c.follow_line-followed.ensures.handled

pub returns-clause-reads : goal.returns-clause-reads
returns-clause-reads g c = handled_reads c.follow_line-followed.result _ _ _ _ _ _ _ _ c.follow_line-followed.ensures.handled
