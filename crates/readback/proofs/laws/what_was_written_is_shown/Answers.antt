use Rattle.readback.proofs.Written.{written_shown, shown_written}
use Rattle.readback.proofs.laws.what_was_written_is_shown.Goals as goal

pub returns : goal.returns
returns c = record { shown = written_shown; only = shown_written }
