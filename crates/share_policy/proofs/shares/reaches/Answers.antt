use Rattle.std.proofs.Common.{arith}
use Rattle.std.proofs.lemmas.Bool.{lt-leb}
use Rattle.share_policy.proofs.Totals.{shares_small, shares_at_zero}
use Rattle.share_policy.proofs.Levels.{level_of-reached, level_of-beyond}
use Rattle.share_policy.proofs.shares.reaches.Goals as goal

pub total_at-requires : goal.total_at-requires
total_at-requires c = shares_small _ c.args.cap c.args.claims.now c.requires

pub returns-then-level-cap : goal.returns-then-level-cap
returns-then-level-cap c =
    rw c.total_at.ensures (level_of-reached c.args.cap c.args.level c.args.claims.now (omega (arith, shares_at_zero c.args.claims.now, c.requires.floors)) (omega (arith, c.if-level-cap.true)))

pub returns-else-level-cap : goal.returns-else-level-cap
returns-else-level-cap c = rw (level_of-beyond c.args.cap c.args.level c.args.claims.now (omega (arith, c.if-level-cap.false))) (lt-leb c.args.level c.args.cap (omega (arith, c.if-level-cap.false)))
