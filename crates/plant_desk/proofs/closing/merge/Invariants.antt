use Rattle.std.proofs.Common.{◌≡◌, List, [], ◌++◌, map, false, vec_len}
use Rattle.plant_desk.specs.Passes.{PassRecord}
use Rattle.plant_desk.specs.Kept.{as_hand}
use Rattle.plant_desk.proofs.closing.merge.Given as goal

abbrev pub invariant-loop-pass : goal.invariant-loop-pass
invariant-loop-pass l = (l.all.table_id ≡ l.board.table_id)
    × ((done : List PassRecord) × (l.initial.passes.items ≡ l.passes.items ++ done) × (l.all.me ≡ (record { hands = map as_hand done; holds = false }, [])))

abbrev pub decreases-loop-pass : goal.decreases-loop-pass
decreases-loop-pass l = vec_len l.passes
