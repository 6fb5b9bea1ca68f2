use Rattle.mbap_frames.proofs.Feedings.{calls_are_stream, calls_are_first, any_cut}
use Rattle.mbap_frames.proofs.laws.calls_read_the_stream.Goals as goal

pub returns-clause-frames : goal.returns-clause-frames
returns-clause-frames c = calls_are_stream

pub returns-clause-first : goal.returns-clause-first
returns-clause-first c = calls_are_first

pub returns-clause-any_cut : goal.returns-clause-any_cut
returns-clause-any_cut c = any_cut
