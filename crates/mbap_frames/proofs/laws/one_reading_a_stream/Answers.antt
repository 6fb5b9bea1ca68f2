use Rattle.mbap_frames.proofs.Streams.{one_reading}
use Rattle.mbap_frames.proofs.Readings.{some_reading}
use Rattle.mbap_frames.proofs.laws.one_reading_a_stream.Goals as goal

pub returns-clause-some : goal.returns-clause-some
returns-clause-some c = some_reading

pub returns-clause-one : goal.returns-clause-one
returns-clause-one c = one_reading
