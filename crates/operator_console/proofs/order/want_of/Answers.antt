use Rattle.std.proofs.Common.{◌≡◌, ℕ, ◌<◌, ◌^◌, Some, ap, ◌∙◌, arith}
use Rattle.operator_console.specs.declared.order.Order.TheVariants.{Want}
use Rattle.operator_console.proofs.Spelling.{one_number, two_words}
use Rattle.operator_console.proofs.order.want_of.Goals as goal

pub returns-in-Some-Some-clause-exact : goal.returns-in-Some-Some-clause-exact
returns-in-Some-Some-clause-exact c = λ inverter mw of_plant most is.
    let read = c.in_ok-inverter.ensures in
    let small : inverter < 2 ^ 64 = omega (arith, of_plant, c.ranges.inverters.fits) in
    let words = two_words c.args.words.now c.in_ok-inverter.inverter.now c.in_ok-inverter.mw.now inverter mw small read.1 read.0 is in
    let first : c.in-Some-Some.inverter ≡ inverter = one_number _ c.in-Some-Some.inverter inverter c.in-Some-Some.ensures.some.1 small c.in-Some-Some.ensures.some.0 words.0 in
    let second : c.in-Some-Some.mw ≡ mw = one_number _ c.in-Some-Some.mw mw c.in-Some-Some.ensures'.some.1 (omega (arith, most)) c.in-Some-Some.ensures'.some.0 words.1 in
    ap (λ (n : ℕ). Some (Want n c.in-Some-Some.mw)) first ∙ ap (λ (n : ℕ). Some (Want inverter n)) second

pub returns-in_default-clause-exact : goal.returns-in_default-clause-exact
returns-in_default-clause-exact c = λ inverter mw of_plant most is.
    let read = c.in_ok-inverter.ensures in
    let small : inverter < 2 ^ 64 = omega (arith, of_plant, c.ranges.inverters.fits) in
    let words = two_words c.args.words.now c.in_ok-inverter.inverter.now c.in_ok-inverter.mw.now inverter mw small read.1 read.0 is in
    let second : c.in-Some-Some.mw ≡ mw = one_number _ c.in-Some-Some.mw mw c.in-Some-Some.ensures'.some.1 (omega (arith, most)) c.in-Some-Some.ensures'.some.0 words.1 in
    absurd (omega (arith, second, most, c.if-mw-le-MW_MAX.false))

pub returns-in_default-2-clause-exact : goal.returns-in_default-2-clause-exact
returns-in_default-2-clause-exact c = λ inverter mw of_plant most is.
    let read = c.in_ok-inverter.ensures in
    let small : inverter < 2 ^ 64 = omega (arith, of_plant, c.ranges.inverters.fits) in
    let words = two_words c.args.words.now c.in_ok-inverter.inverter.now c.in_ok-inverter.mw.now inverter mw small read.1 read.0 is in
    let first : c.in-Some-Some.inverter ≡ inverter = one_number _ c.in-Some-Some.inverter inverter c.in-Some-Some.ensures.some.1 small c.in-Some-Some.ensures.some.0 words.0 in
    absurd (omega (arith, first, of_plant, c.from.ensures, c.if-inverter-from.false))

pub returns-in_default-3-clause-exact : goal.returns-in_default-3-clause-exact
returns-in_default-3-clause-exact c = λ inverter mw of_plant most is.
    let read = c.in_ok-inverter.ensures in
    let small : inverter < 2 ^ 64 = omega (arith, of_plant, c.ranges.inverters.fits) in
    let words = two_words c.args.words.now c.in_ok-inverter.inverter.now c.in_ok-inverter.mw.now inverter mw small read.1 read.0 is in
    absurd (c.in_default.ensures'.none mw (omega (arith, most)) words.1)

pub returns-in_default-4-clause-exact : goal.returns-in_default-4-clause-exact
returns-in_default-4-clause-exact c = λ inverter mw of_plant most is.
    let read = c.in_ok-inverter.ensures in
    let small : inverter < 2 ^ 64 = omega (arith, of_plant, c.ranges.inverters.fits) in
    let words = two_words c.args.words.now c.in_ok-inverter.inverter.now c.in_ok-inverter.mw.now inverter mw small read.1 read.0 is in
    let none = rw c.in_default.is-0 at c.number_of.ensures.none in
    absurd (none inverter small words.0)
