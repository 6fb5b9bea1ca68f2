-- Fair shares at a level, and their sum.
use Rattle.std.proofs.Common.{ℕ, ◌^◌, ◌<◌, ◌≤◌, List, get_or, arith}
use Rattle.std.specs.Prelude.{sum_by}
use Rattle.std.proofs.lemmas.List.Sums.{sum_by-le, sum_by-le-sum_by}
use Rattle.std.proofs.lemmas.List.Elements.{All-from_recursion}
use Rattle.std.proofs.Math.Nat.{mul-le-mul_right}
use Rattle.share_policy.specs.declared.claim.Claim.{Claim}
use Rattle.share_policy.specs.Shares.{share_at}
use Rattle.share_policy.specs.Claims.{rated_max, IsFeasible}

-- a share is at most the rating
share_at-le : (level : ℕ) (claim : Claim) → claim.floor ≤ claim.rated → claim.rated ≤ rated_max → share_at level claim ≤ rated_max
unfolding share_at
share_at-le level claim sound rated = omega arith

-- at a greater level a share is no less
pub share_at-mono : (low high : ℕ) → low ≤ high → (claim : Claim) → share_at low claim ≤ share_at high claim
unfolding share_at
share_at-mono low high le claim = omega arith

-- nor is the sum of the shares
pub shares_mono : (low high : ℕ) → low ≤ high → (claims : List Claim) → sum_by (share_at low) claims ≤ sum_by (share_at high) claims
shares_mono low high le claims = sum_by-le-sum_by (share_at low) (share_at high) claims (share_at-mono low high le)

-- the shares of all claims sum to less than a word holds
pub shares_small : (level cap : ℕ) (claims : List Claim) → IsFeasible cap claims → sum_by (share_at level) claims < 2 ^ 64
shares_small level cap claims feasible =
    let sound = All-from_recursion (λ (claim : Claim). claim.floor ≤ claim.rated) claims feasible.sound in
    let rated = All-from_recursion (λ (claim : Claim). claim.rated ≤ rated_max) claims feasible.rated in
    omega (
      arith,
      sum_by-le (share_at level) rated_max claims (λ place d within. share_at-le level (get_or claims place d) (sound place d within) (rated place d within)),
      mul-le-mul_right rated_max feasible.few,
    )

-- at level 0 the shares are the floors
pub shares_at_zero : (claims : List Claim) → sum_by (share_at 0) claims ≤ sum_by (λ claim. claim.floor) claims
unfolding share_at
shares_at_zero claims = sum_by-le-sum_by (share_at 0) (λ claim. claim.floor) claims (λ claim. omega arith)

-- a share below wish and rating is no less than one that is above its floor
pub fair_at : (level : ℕ) (short other : Claim) → share_at level short < short.wish → share_at level short < short.rated
    → other.floor < share_at level other → share_at level other ≤ share_at level short
unfolding share_at
fair_at level short other wish rated spare = omega arith
