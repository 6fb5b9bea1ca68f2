use Rattle.std.proofs.Common.{◌<◌, ◌∙◌, length, sym, ap, arith}
use Rattle.mbap_frames.proofs.Gathered.{before_unfinished}
use Rattle.mbap_frames.proofs.OneFeeding.{fed_more, fed_one}
use Rattle.mbap_frames.proofs.frames.take_piece.Goals as goal

pub returns-in-Ok-clause-step : goal.returns-in-Ok-clause-step
returns-in-Ok-clause-step c =
    let kept = c.as_slice.ensures.value in
    let before : length c.as_slice.result.now < c.in-Ok.end = omega (arith, ap length kept, c.len.ensures.value) in
    let unfinished = rw kept at (before_unfinished c.as_slice.result.now c.in-Ok.end c.in-Ok.ensures.wants before) in
    fed_more c.args.kept.now c.args.piece.now c.gather-used.new.kept c.gather-used.result c.gather-used.ensures.within c.gather-used.ensures.taken c.gather-used.ensures.all unfinished

pub returns-in-Ok-2-clause-step : goal.returns-in-Ok-2-clause-step
returns-in-Ok-2-clause-step c =
    rw c.new.ensures
    (fed_one c.args.kept.now c.args.piece.now c.gather-used.new.kept c.gather-used.result c.frame_of-frame.result c.gather-used.ensures.within c.gather-used.ensures.taken c.frame_of-frame.ensures.is_frame
    (sym c.as_slice-in-Ok-2.ensures.value ∙ c.frame_of-frame.ensures.spelled))
