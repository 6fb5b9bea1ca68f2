use Rattle.std.proofs.Common.{◌≡◌, ℕ, suc, ◌+◌, ◌-◌, ◌*◌, ◌^◌, ◌<◌, ◌≤◌, arith, inl, inr}
use Rattle.std.proofs.lemmas.Bool.{cases_Bool}
use Rattle.share_policy.specs.Shares.{level_of}
use Rattle.share_policy.specs.LevelRange.{width}
use Rattle.share_policy.proofs.shares.by_halves.Goals as goal

-- half of what is below a power of two is below the power before
half_below : (round whole half : ℕ) → round < 64 → whole < 2 ^ (64 - round) → 2 * half ≤ whole → half < 2 ^ (64 - (round + 1))
half_below round whole half few below is_half =
    let next : 64 - round ≡ suc (64 - (round + 1)) = omega arith in
    let doubled : whole < 2 ^ suc (64 - (round + 1)) = rw next at below in
    grind arith

pub loop-round-preserved : goal.loop-round-preserved
loop-round-preserved c =
    let all = c.loop-round.invariant in
    let range = c.loop-round.range in
    let left = c.narrowed-range.result in
    let most = level_of c.args.cap c.args.claims.now in
    let narrow : 2 * width left ≤ width range =
    elim (cases_Bool c.reaches.result) [
      | inl reached ↦ omega (arith, c.narrowed-range.ensures.upper_half reached)
      | inr beyond ↦ omega (arith, c.narrowed-range.ensures.lower_half beyond)
    ] in
    record {
      has = c.narrowed-range.ensures.has most all.has c.reaches.ensures;
      high = omega arith;
      narrow = half_below c.loop-round._round (width range) (width left) (omega arith) all.narrow narrow;
    }
