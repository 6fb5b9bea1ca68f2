use Rattle.std.proofs.Common.{◌++◌}
use Rattle.mbap_frames.specs.declared.frames.Got.TheVariants.{More, One, Bad}
use Rattle.mbap_frames.proofs.OneFeeding.{first_of_call, exactly, stays_bad}
use Rattle.mbap_frames.proofs.frames.Frames.feed.Goals as goal

pub returns-clause-more : goal.returns-clause-more
returns-clause-more c =
    rw (← c.self.view_is)
    (exactly (c.self.inside.kept ++ c.args.piece.now) c.take_piece.result.got More (first_of_call c.self.inside.kept c.args.piece.now c.take_piece.result c.take_piece.new.kept c.take_piece.ensures.step))

pub returns-clause-one : goal.returns-clause-one
returns-clause-one c =
    rw (← c.self.view_is)
    (λ frame. exactly (c.self.inside.kept ++ c.args.piece.now) c.take_piece.result.got (One frame) (first_of_call c.self.inside.kept c.args.piece.now c.take_piece.result c.take_piece.new.kept c.take_piece.ensures.step))

pub returns-clause-bad : goal.returns-clause-bad
returns-clause-bad c =
    rw (← c.self.view_is)
    (λ fault. exactly (c.self.inside.kept ++ c.args.piece.now) c.take_piece.result.got (Bad fault) (first_of_call c.self.inside.kept c.args.piece.now c.take_piece.result c.take_piece.new.kept c.take_piece.ensures.step))

pub returns-clause-after_fault : goal.returns-clause-after_fault
returns-clause-after_fault c =
    rw (← c.self.view_is)
    (λ fault stands. let bad = stays_bad c.self.inside.kept c.args.piece.now fault c.take_piece.result c.take_piece.new.kept c.self.invariant c.take_piece.ensures.step stands in (bad.used, bad.got, bad.kept))
