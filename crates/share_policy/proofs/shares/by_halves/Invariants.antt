use Rattle.std.proofs.Common.{◌-◌, ◌^◌, ◌<◌, ◌≤◌}
use Rattle.share_policy.specs.Shares.{level_of}
use Rattle.share_policy.specs.LevelRange.{Has, width}
use Rattle.share_policy.proofs.shares.by_halves.Given as goal

abbrev pub invariant-loop-round : goal.invariant-loop-round
invariant-loop-round l = record {
  has : Has l.range (level_of l.cap l.claims);
  high : l.range.highest ≤ l.cap;
  narrow : width l.range < 2 ^ (64 - l._round);
}
