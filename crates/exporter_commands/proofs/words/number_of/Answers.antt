use Rattle.std.proofs.Common.{◌≡◌, ◌∙◌, ◌<◌, ◌^◌, arith, sym}
use Rattle.std.proofs.lemmas.Fmt.{decimal_injective}
use Rattle.exporter_commands.proofs.words.number_of.Goals as goal

pub returns-in_default-clause-none : goal.returns-in_default-clause-none
returns-in_default-clause-none c = λ number least most is.
    let small : number < 2 ^ 64 = omega (arith, most, c.ranges.most.fits) in
    let one : c.in-Some.number ≡ number = decimal_injective c.in-Some.number number (omega (arith, c.in-Some.ensures.some.1)) small (sym c.in-Some.ensures.some.0 ∙ is) in
    omega (arith, one, most, c.if-number-most.false)

pub returns-in_default-2-clause-none : goal.returns-in_default-2-clause-none
returns-in_default-2-clause-none c = λ number least most is.
    let small : number < 2 ^ 64 = omega (arith, most, c.ranges.most.fits) in
    let one : c.in-Some.number ≡ number = decimal_injective c.in-Some.number number (omega (arith, c.in-Some.ensures.some.1)) small (sym c.in-Some.ensures.some.0 ∙ is) in
    omega (arith, one, least, c.if-least-number.false)
