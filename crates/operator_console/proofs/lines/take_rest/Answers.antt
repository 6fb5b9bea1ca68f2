use Rattle.std.proofs.Common.{◌≡◌, ◌+◌, List, [], ℕ, ap, subst, arith, length}
use Rattle.std.specs.Prelude.{vec_len}
use Rattle.std.proofs.lemmas.Bool.Decides.{nat_tests}
use Rattle.operator_console.specs.Deeds.{tests_of}
use Rattle.operator_console.specs.Handling.{IsHandled}
use Rattle.operator_console.proofs.Ending.{lasts}
use Rattle.operator_console.proofs.Taking.{handled_reads, last_held}
use Rattle.operator_console.proofs.lines.take_rest.Goals as goal

pub returns-clause-ended : goal.returns-clause-ended
returns-clause-ended g c =
    let held = c.args.lines.now.held.items in
    let some : ¬ (held ≡ []) = λ is.
    let none : length held ≡ 0 = ap length is in
    let count : length c.deref.result.now ≡ length held = ap length c.deref.ensures.value in
    let len : length c.deref.result.now ≡ vec_len c.args.lines.now.held = c.deref.ensures.len in
    let zero : vec_len c.args.lines.now.held ≡ 0 = omega (arith, none, count, len) in
    grind (arith, nat_tests, zero, c.is_empty.ensures, c.if-is_empty.false)
    in
    let P : List ℕ → Type 0 = λ l. IsHandled c.follow_line.result
    (tests_of (g.K.Clock.may_give c.args.clock.now) (g.D.Desk.tests c.follow_line.new.desk))
    (g.D.Desk.tests c.follow_line.new.desk).was_full (c.args.lines.now.number + 1) l (g.D.Desk.state c.args.desk.now) (g.D.Desk.state c.follow_line.new.desk)
    (g.O.Sink.taken c.args.out.now) (g.O.Sink.taken c.follow_line.new.out) in
    last_held c.follow_line.result _ _ _ _ _ _ _ _ _ (lasts _ _ _ c.follow_line.ensures.last) some (subst P c.deref.ensures.value c.follow_line.ensures.handled)

pub returns-clause-reads : goal.returns-clause-reads
returns-clause-reads g c = handled_reads c.follow_line.result _ _ _ _ _ _ _ _ c.follow_line.ensures.handled
