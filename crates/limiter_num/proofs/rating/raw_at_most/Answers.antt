-- On each side of zero the quotient is the greatest raw percentage.
use Rattle.std.proofs.Common.{◌≡◌, ◌∙◌, sym, min, ◌*◌, ◌/◌, arith}
use Rattle.std.specs.Prelude.{FitsSigned}
use Rattle.std.specs.Int.{w32}
use Rattle.std.proofs.lemmas.Int.{to_z-of_z}
use Rattle.limiter_num.proofs.RawAtMost.{at_most_below, at_most_from_zero}
use Rattle.limiter_num.proofs.rating.raw_at_most.Goals as goal

pub returns-then-power-lt0 : goal.returns-then-power-lt0
returns-then-power-lt0 c =
    let a = c.args in
    let power : FitsSigned w32 a.power = c.ranges.power in
    let below = simp to_z-of_z at c.if-power-lt0.true in
    let tens = simp to_z-of_z at c.tens-tens.ensures.value in
    let value : c.min.result ≡ min (a.mw * c.tens-tens.result / a.wmax) a.full = simp (← c.from-mw.ensures, ← c.from-wmax.ensures, ← c.from-full.ensures) c.min.ensures in
    value ∙ sym (at_most_below a.wmax a.full a.mw c.tens-tens.result a.power c.requires.positive below tens)

pub returns : goal.returns
returns c =
    let a = c.args in
    let power : FitsSigned w32 a.power = c.ranges.power in
    let above = simp to_z-of_z at c.if-power-lt0.false in
    let tens = simp to_z-of_z at c.tens-tens.ensures.value in
    let value : c.min-2.result ≡ min (a.mw / (a.wmax * c.tens-tens.result)) a.full = simp (← c.from-mw.ensures, ← c.from-wmax.ensures, ← c.from-full.ensures) c.min-2.ensures in
    value ∙ sym (at_most_from_zero a.wmax a.full a.mw c.tens-tens.result a.power c.requires.positive above tens)
