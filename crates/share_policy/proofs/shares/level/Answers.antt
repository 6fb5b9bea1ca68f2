use Rattle.std.proofs.Common.{arith}
use Rattle.share_policy.proofs.Totals.{shares_at_zero, fair_at}
use Rattle.share_policy.proofs.Levels.{level_of-le, level_of-within, level_of-tight}
use Rattle.share_policy.proofs.shares.level.Goals as goal

pub returns-clause-within : goal.returns-clause-within
returns-clause-within c = rw c.by_halves.ensures (level_of-within c.args.cap c.args.claims.now (omega (arith, shares_at_zero c.args.claims.now, c.requires.floors)))

pub returns-clause-fair : goal.returns-clause-fair
returns-clause-fair c = λ short other within also is_short has_spare. fair_at c.by_halves.result short other is_short.0 is_short.1 has_spare

pub returns-clause-tight : goal.returns-clause-tight
returns-clause-tight c = rw c.by_halves.ensures (level_of-tight c.args.cap c.args.claims.now (omega (arith, shares_at_zero c.args.claims.now, c.requires.floors)))

pub returns-clause-high : goal.returns-clause-high
returns-clause-high c = rw c.by_halves.ensures (level_of-le c.args.cap c.args.claims.now)
