use Rattle.std.proofs.Common.{◌<◌, arith}
use Rattle.mbap_frames.proofs.Gathered.{goes_on}
use Rattle.mbap_frames.proofs.gathering.gather.Goals as goal

pub loop-used-preserved : goal.loop-used-preserved
loop-used-preserved c =
    let some : 0 < c.bytes_to_next_look-missing.result = omega arith in
    let wants = rw c.as_slice.ensures.value at (c.bytes_to_next_look-missing.ensures.wants some) in
    let on = goes_on c.args.kept.now c.args.piece.now c.loop-used.kept c.extend_from_slice.new.self c.loop-used.used c.min-count.result c.bytes_to_next_look-missing.result
    c.loop-used.invariant.0 c.loop-used.invariant.1 c.extend_from_slice.ensures wants c.min-count.ensures in
    (on.within, on.taken, on.gathered)
