-- What is known of the level of the fair shares.
use Rattle.std.specs.Prelude.{◌≡◌, ℕ, List, IfSome, sum_by}
use Rattle.share_policy.specs.declared.claim.Claim.{Claim}
use Rattle.share_policy.specs.Shares.{share_at, level_of}
use Rattle.plant_ledger.specs.declared.known.Probe.{Probe}
use Rattle.plant_ledger.specs.declared.known.Known.{Known}

-- the fair shares of the claims sum to the total of a probe at its level
abbrev pub IsProbe : List Claim → Probe → Type 0
IsProbe claims probe = probe.total ≡ sum_by (share_at probe.level) claims

-- what is known of the level of the claims under a cap is right
pub record IsKnown (cap : ℕ) (claims : List Claim) (known : Known) : Type 0 where
  pub made : IfSome known.made (λ level. level ≡ level_of cap claims)
  pub probe : IfSome known.probe (λ probe. IsProbe claims probe)
