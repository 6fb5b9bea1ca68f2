-- Claims that a cap can serve.
use Rattle.std.specs.Prelude.{ℕ, ◌^◌, ◌≤◌, List, length, sum_by}
use Rattle.std.specs.List.{AllByRecursion}
use Rattle.share_policy.specs.declared.claim.Claim.{Claim}

-- how many claims share a cap at most
abbrev pub claims_max : ℕ
claims_max = 64

-- the greatest rating of a claim, in milliwatts
abbrev pub rated_max : ℕ
rated_max = 10 ^ 12

-- Claims are feasible under a cap where they are few, none has a floor above its rating or a rating above the
-- greatest, and their floors sum to at most the cap.
pub record IsFeasible (cap : ℕ) (claims : List Claim) : Type 0 where
  pub few : length claims ≤ claims_max
  pub sound : AllByRecursion (λ claim. claim.floor ≤ claim.rated) claims
  pub rated : AllByRecursion (λ claim. claim.rated ≤ rated_max) claims
  pub floors : sum_by (λ claim. claim.floor) claims ≤ cap
