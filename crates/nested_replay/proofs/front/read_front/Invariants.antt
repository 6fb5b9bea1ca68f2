use Rattle.std.proofs.Common.{◌≡◌, ◌+◌, ◌≤◌, length, take}
use Rattle.nested_replay.specs.Reading.{FrontRead}
use Rattle.nested_replay.proofs.front.read_front.Given as goal

abbrev pub invariant-loop-bus : goal.invariant-loop-bus
invariant-loop-bus l = record {
  read : FrontRead l.fn.bytes (take l.count l.places) l.script l.rows;
  few : l.count ≤ 32;
  places : length l.places ≡ 32;
  short : l.rows + length l.script ≤ length l.fn.bytes;
}

abbrev pub decreases-loop-bus : goal.decreases-loop-bus
decreases-loop-bus l = length l.script
