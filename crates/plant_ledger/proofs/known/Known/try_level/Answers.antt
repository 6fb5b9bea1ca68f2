use Rattle.share_policy.proofs.Totals.{shares_small}
use Rattle.plant_ledger.proofs.known.Known.try_level.Goals as goal

pub total_at-total-requires : goal.total_at-total-requires
total_at-total-requires c = shares_small c.args.mw c.args.cap c.args.claims.now c.requires.feasible
