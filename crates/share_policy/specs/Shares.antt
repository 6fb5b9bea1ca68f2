-- Fair shares: each claim gets its floor, and above it the least of its wish, its rating and one level for all.
use Rattle.std.specs.Prelude.{ℕ, Bool, ◌&&◌, nat_le, nat_lt, min, max, List, sum_by}
use Rattle.limiter_num.specs.Greatest.{greatest_up_to}
use Rattle.share_policy.specs.declared.claim.Policy.{Policy}
use Rattle.share_policy.specs.declared.claim.Policy.TheVariants as policies
use Rattle.share_policy.specs.declared.claim.Claim.{Claim}

-- the fair share of a claim at a level
unfoldable pub share_at : ℕ → Claim → ℕ
share_at level claim = max claim.floor (min claim.wish (min claim.rated level))

-- whether the fair share of a claim is greater at the next level
abbrev pub rises : ℕ → Claim → Bool
rises level claim = nat_le claim.floor level && nat_lt level claim.wish && nat_lt level claim.rated

-- the greatest level from 0 to the cap at which the fair shares of all claims sum to at most the cap
unfoldable pub level_of : ℕ → List Claim → ℕ
level_of cap claims = greatest_up_to cap (λ level. nat_le (sum_by (share_at level) claims) cap)

-- what the policy allows a claim, where fair shares have this level
abbrev pub target_of : Policy → ℕ → Claim → ℕ
target_of policies.Open level claim = claim.rated
target_of policies.Fair level claim = share_at level claim
