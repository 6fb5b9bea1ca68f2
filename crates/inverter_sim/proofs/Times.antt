-- How long a limit may be held at most.
use Rattle.std.proofs.Common.{◌≤◌, ◌*◌, ◌+◌, arith}
use Rattle.std.proofs.lemmas.Nat.{mul-le}
use Rattle.limiter_num.specs.declared.rules.Rules.{Rules}
use Rattle.limiter_num.specs.Timers.{tmax}

pub tmax_below : (rules : Rules) → tmax rules ≤ 130200000
unfolding tmax
tmax_below rules =
    let product : rules.timer * 1000 * (1000 + rules.per_mille) ≤ 86400000 * 1500 =
    mul-le (rules.timer * 1000) (1000 + rules.per_mille) 86400000 1500 (omega (arith, rules.timer_high)) (omega (arith, rules.per_mille_high)) in
    omega (arith, product, rules.slack_high)
