use Rattle.std.proofs.Common.{◌≡◌, ◌-◌, ◌≤◌, ◌++◌, length, take}
use Rattle.mbap_frames.specs.Gathering.{IsGathered}
use Rattle.mbap_frames.proofs.gathering.gather.Given as goal

-- what was kept before and the bytes used so far are gathered
abbrev pub invariant-loop-used : goal.invariant-loop-used
invariant-loop-used l =
    (l.used ≤ length l.piece)
    × (l.kept ≡ l.fn.kept ++ take l.used l.piece)
    × IsGathered l.kept

abbrev pub decreases-loop-used : goal.decreases-loop-used
decreases-loop-used l = length l.piece - l.used
