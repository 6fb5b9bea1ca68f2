-- When targets are fair: nobody is left short for the sake of one who gets more.
use Rattle.std.specs.Prelude.{ℕ, ◌<◌, ◌≤◌, List, Contains}
use Rattle.share_policy.specs.declared.claim.Claim.{Claim}

-- the target is below both what the claim wishes for and what it is rated at
abbrev pub IsShort : (Claim → ℕ) → Claim → Type 0
IsShort target claim = (target claim < claim.wish) × (target claim < claim.rated)

-- the target is above the floor, so that watts of it could go to another
abbrev pub HasSpare : (Claim → ℕ) → Claim → Type 0
HasSpare target claim = claim.floor < target claim

-- Targets are max-min fair where a claim that is left short has at least as much as any that has watts to spare.
abbrev pub IsMaxMinFair : (Claim → ℕ) → List Claim → Type 0
IsMaxMinFair target claims = (short other : Claim) → Contains claims short → Contains claims other
    → IsShort target short → HasSpare target other → target other ≤ target short
