-- Which fair shares are at least so many milliwatts.
use Rattle.std.proofs.Common.{◌≡◌, ℕ, ◌<◌, ◌≤◌, min, leb, true, false, refl, arith, inl, inr}
use Rattle.std.specs.Prelude.{max}
use Rattle.std.proofs.lemmas.Bool.{le-leb, lt-leb, cases_lt}
use Rattle.share_policy.specs.declared.claim.Claim.{Claim}
use Rattle.share_policy.specs.Shares.{share_at}

-- what a floor has is had at each level
pub share_low : (mw level : ℕ) (claim : Claim) → mw ≤ claim.floor → leb mw (share_at level claim) ≡ true
unfolding share_at
share_low mw level claim low = le-leb mw (share_at level claim) (omega (arith, low))

-- beyond the floor no more than the wish is had
pub share_unwished : (mw level : ℕ) (claim : Claim) → claim.floor < mw → claim.wish < mw → leb mw (share_at level claim) ≡ false
unfolding share_at
share_unwished mw level claim high beyond = lt-leb mw (share_at level claim) (omega (arith, high, beyond))

-- nor more than the rating
pub share_unrated : (mw level : ℕ) (claim : Claim) → claim.floor < mw → claim.rated < mw → leb mw (share_at level claim) ≡ false
unfolding share_at
share_unrated mw level claim high beyond = lt-leb mw (share_at level claim) (omega (arith, high, beyond))

-- at a level that both are within the greatest share is had
pub share_whole : (share level : ℕ) (claim : Claim) → share ≡ max claim.floor (min claim.wish claim.rated) → min claim.wish claim.rated ≤ level → share ≡ share_at level claim
unfolding share_at
share_whole share level claim is reached = omega (arith, is, reached)

-- and up to both the level tells
pub share_by_level : (mw level : ℕ) (claim : Claim) → claim.floor < mw → mw ≤ claim.wish → mw ≤ claim.rated → leb mw level ≡ leb mw (share_at level claim)
unfolding share_at
share_by_level mw level claim high wished rated =
    elim (cases_lt level mw) [
      | inl lt ↦ rw (lt-leb mw level lt, lt-leb mw (share_at level claim) (omega (arith, high, lt))) refl
      | inr le ↦ rw (le-leb mw level le, le-leb mw (share_at level claim) (omega (arith, le, wished, rated))) refl
    ]
