use Rattle.std.proofs.Common.{◌≤◌}
use Rattle.share_policy.specs.Shares.{level_of}
use Rattle.share_policy.specs.LevelRange.{Has}
use Rattle.share_policy.proofs.shares.by_guesses.Given as goal

abbrev pub invariant-loop-guess : goal.invariant-loop-guess
invariant-loop-guess l = record {
  has : Has l.range (level_of l.cap l.claims);
  high : l.range.highest ≤ l.cap;
}
