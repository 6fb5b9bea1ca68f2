use Rattle.share_policy.proofs.Levels.{level_of-order, level_of-each}
use Rattle.share_policy.proofs.laws.level_depends_on_claims_alone.Goals as goal

pub returns-clause-any_order : goal.returns-clause-any_order
returns-clause-any_order c = level_of-order

pub returns-clause-each_claim : goal.returns-clause-each_claim
returns-clause-each_claim c = level_of-each
