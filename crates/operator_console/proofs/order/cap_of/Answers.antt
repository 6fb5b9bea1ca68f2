use Rattle.std.proofs.Common.{◌≡◌, ℕ, Some, ap, arith}
use Rattle.operator_console.specs.declared.order.Order.TheVariants.{Cap}
use Rattle.operator_console.proofs.Spelling.{one_number}
use Rattle.operator_console.proofs.order.cap_of.Goals as goal

pub returns-in-Some-clause-exact : goal.returns-in-Some-clause-exact
returns-in-Some-clause-exact c = λ mw most is.
    let one : c.in-Some.mw ≡ mw = one_number c.args.word.now c.in-Some.mw mw c.in-Some.ensures.some.1 (omega (arith, most)) c.in-Some.ensures.some.0 is in
    ap (λ (n : ℕ). Some (Cap n)) one

pub returns-in_default-clause-exact : goal.returns-in_default-clause-exact
returns-in_default-clause-exact c = λ mw most is.
    let one : c.in-Some.mw ≡ mw = one_number c.args.word.now c.in-Some.mw mw c.in-Some.ensures.some.1 (omega (arith, most)) c.in-Some.ensures.some.0 is in
    absurd (omega (arith, one, most, c.if-mw-le-MW_MAX.false))
