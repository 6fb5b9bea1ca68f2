use Rattle.std.specs.Prelude.{None, Some}
use Rattle.nested_replay.specs.Nested.{IsFirstBadNested}
use Rattle.nested_replay.specs.Replay.{IsBusRefused, IsNestedReplay}
use Rattle.stream_io.specs.Streams.{GainsFront, GainsText}
use Rattle.script_command.proofs.Ending.{gains, of_whole, too_long, within}
use Rattle.nested_command.specs.Nested.{HasBadSite, IsNestedText, RefusesNested, TellsSafeLife}
use Rattle.nested_command.proofs.Nesting.{tells}
use Rattle.nested_command.proofs.laws.what_a_nested_replay_says.Goals as goal

pub returns : goal.returns
returns c = record {
  bad_line = λ read input output line kind row. of_whole read input (λ bytes. IsFirstBadNested bytes line kind) row.read row.cause;
  bad_site = λ read input output fault row. of_whole read input (λ bytes. HasBadSite bytes fault) row.read row.cause;
  bad_bus = λ read input output fault row. of_whole read input (λ bytes. IsBusRefused bytes fault) row.read row.cause;
  too_long = too_long IsNestedReplay RefusesNested;
  read_fault = λ read input output row. row.cause;
  write_fault = λ read input output row. row.cause;
  within = within IsNestedReplay RefusesNested;
  gained = λ read input output row. of_whole read input (λ bytes. GainsText (IsNestedReplay bytes None) output) row.read row.gained;
  gained_full = λ read input output calls row. of_whole read input (λ bytes. GainsText (IsNestedReplay bytes (Some calls)) output) row.read row.gained;
  gained_front = λ read input output row. of_whole read input (λ bytes. GainsFront (IsNestedText bytes) output) row.read row.gained;
  safe_life = gains IsNestedReplay RefusesNested TellsSafeLife tells;
}
