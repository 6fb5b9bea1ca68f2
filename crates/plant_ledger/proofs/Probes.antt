-- What a sum of fair shares tells of their level.
use Rattle.std.proofs.Common.{◌≡◌, ℕ, ◌<◌, ◌≤◌, leb, true, false, List, sym, ◌∙◌, arith}
use Rattle.std.specs.Prelude.{sum_by}
use Rattle.std.proofs.lemmas.Bool.{le-leb, lt-leb}
use Rattle.share_policy.specs.declared.claim.Claim.{Claim}
use Rattle.share_policy.specs.Claims.{IsFeasible}
use Rattle.share_policy.specs.Shares.{share_at, level_of}
use Rattle.share_policy.proofs.Totals.{shares_mono, shares_at_zero}
use Rattle.share_policy.proofs.Levels.{level_of-reached}
use Rattle.plant_ledger.specs.declared.known.Probe.{Probe}
use Rattle.plant_ledger.specs.Known.{IsProbe}

module _ (cap mw : ℕ) (claims : List Claim) (probe : Probe) (feasible : IsFeasible cap claims) (is : IsProbe claims probe) (within : mw ≤ cap) where
  by_sum : leb (sum_by (share_at mw) claims) cap ≡ leb mw (level_of cap claims)
  by_sum = level_of-reached cap mw claims (omega (arith, shares_at_zero claims, feasible.floors)) within

  -- where the shares fit under the cap, no lower level is beyond the level
  pub reached_below : probe.total ≤ cap → mw ≤ probe.level → leb mw (level_of cap claims) ≡ true
  reached_below fits le = sym by_sum ∙ le-leb (sum_by (share_at mw) claims) cap (omega (arith, shares_mono mw probe.level le claims, is, fits))

  -- where they don't, each greater one is
  pub unreached_above : cap < probe.total → probe.level ≤ mw → leb mw (level_of cap claims) ≡ false
  unreached_above over le = sym by_sum ∙ lt-leb (sum_by (share_at mw) claims) cap (omega (arith, shares_mono probe.level mw le claims, is, over))
