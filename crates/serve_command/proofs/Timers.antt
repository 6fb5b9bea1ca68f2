-- A timer runs out no later than it may.
use Rattle.std.proofs.Common.{◌+◌, ◌-◌, ◌*◌, ◌/◌, ◌≤◌, arith}
use Rattle.std.specs.Int.{div_ceil}
use Rattle.std.proofs.Math.Nat.{mul-le-mul_left, div-le_of_le-mul}
use Rattle.std.proofs.lemmas.Grind.{div_ceil_times}
use Rattle.limiter_num.specs.declared.rules.Rules.{Rules}
use Rattle.limiter_num.specs.Timers.{tmin, tmax}

pub tmin_tmax : (rules : Rules) → tmin rules ≤ tmax rules
unfolding tmin tmax
tmin_tmax rules =
    let time = rules.timer * 1000 in
    let low : time * (1000 - rules.per_mille) ≤ 1000 * time = omega (arith, mul-le-mul_left {m = 1000 - rules.per_mille} {n = 1000} time (omega arith)) in
    let floor : time * (1000 - rules.per_mille) / 1000 ≤ time = div-le_of_le-mul 1000 low in
    let high : time * 1000 ≤ time * (1000 + rules.per_mille) = mul-le-mul_left time (omega arith) in
    let ceil : time * (1000 + rules.per_mille) ≤ div_ceil (time * (1000 + rules.per_mille)) 1000 * 1000 = (div_ceil_times (time * (1000 + rules.per_mille)) 1000 (omega arith)).0 in
    omega (arith, floor, high, ceil)
