use Rattle.std.proofs.Common.{◌≡◌, ◌∙◌, true, arith, sym}
use Rattle.std.proofs.lemmas.Fmt.{parse-decimal}
use Rattle.std.proofs.lemmas.Slice.Eq.{bytes_eq-Decides}
use Rattle.operator_console.proofs.order.text_number.Goals as goal

pub returns-in_default-clause-none : goal.returns-in_default-clause-none
returns-in_default-clause-none c = λ number small is.
    c.in_default.not-Ok number (parse-decimal 64 number c.args.text.now c.parse.result small (omega (arith, small)) is c.parse.ensures.value.0)

pub returns-else-eq-clause-none : goal.returns-else-eq-clause-none
returns-else-eq-clause-none c = λ number small is.
    let parsed = parse-decimal 64 number c.args.text.now c.parse.result small (omega (arith, small)) is c.parse.ensures.value.0 in
    let one : c.in-Ok.number ≡ number = cc in
    let same : c.format.result.now ≡ c.args.text.now = rw one at c.format.ensures.text ∙ sym is in
    let yes : c.eq.result ≡ true = c.eq.ensures ∙ (bytes_eq-Decides c.format.result.now c.args.text.now).1 same in
    grind (arith, yes, c.if-eq.false)
