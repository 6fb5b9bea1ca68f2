use Rattle.std.proofs.Common.{◌≡◌, ◌+◌, ◌^◌, ◌<◌, ◌++◌, ℕ, List, length}
use Rattle.std.specs.Str.Lines.{lines}
use Rattle.one_life_script.specs.OneLife.{EndNoBook}
use Rattle.one_life_script.proofs.judging.first_end.Given as goal

abbrev pub invariant-loop-rest : goal.invariant-loop-rest
invariant-loop-rest l = record {
  few : l.number + length l.rest < 2 ^ 32;
  before : List (List ℕ);
  rows : lines l.fn.bytes ≡ before ++ lines l.rest;
  one : EndNoBook before;
  count : l.number ≡ length before + 1;
}

abbrev pub decreases-loop-rest : goal.decreases-loop-rest
decreases-loop-rest l = length l.rest
