use Rattle.check_command.proofs.Checking.{causes, within}
use Rattle.stream_io.specs.Streams.{GainsFront, GainsText}
use Rattle.command_io.proofs.Sites.{of_whole}
use Rattle.check_command.specs.Check.{IsCheck}
use Rattle.check_command.proofs.laws.what_a_check_says.Goals as goal

pub returns : goal.returns
returns c = record {
  site = causes;
  write_fault = λ read input output row. row.cause;
  within = within;
  gained = λ read input output row. of_whole read input (λ bytes. GainsText (IsCheck bytes) output) row.read row.gained;
  gained_front = λ read input output row. of_whole read input (λ bytes. GainsFront (IsCheck bytes) output) row.read row.gained;
}
