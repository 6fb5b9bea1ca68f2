use Rattle.std.proofs.Common.{◌≤◌, arith}
use Rattle.std.specs.Prelude.{sum_by}
use Rattle.share_policy.specs.Shares.{share_at, level_of}
use Rattle.share_policy.proofs.Totals.{shares_small, shares_at_zero}
use Rattle.share_policy.proofs.Levels.{level_of-le, level_of-reached}
use Rattle.share_policy.proofs.shares.by_guesses.Goals as goal

pub total_at-total-requires : goal.total_at-total-requires
total_at-total-requires c = shares_small _ c.args.cap c.args.claims.now c.requires

pub loop-guess-init : goal.loop-guess-init
loop-guess-init c = record { has = (omega arith, level_of-le c.args.cap c.args.claims.now); high = omega arith }

pub loop-guess-preserved : goal.loop-guess-preserved
loop-guess-preserved c =
    let all = c.loop-guess.invariant in
    let floors : sum_by (share_at 0) c.args.claims.now ≤ c.args.cap = omega (arith, shares_at_zero c.args.claims.now, c.requires.floors) in
    let within : c.nearest-level.result ≤ c.args.cap = omega arith in
    let reached = level_of-reached c.args.cap c.nearest-level.result c.args.claims.now floors within in
    record {
      has = c.narrowed-range.ensures.has (level_of c.args.cap c.args.claims.now) all.has (rw c.total_at-total.ensures reached);
      high = omega arith;
    }
