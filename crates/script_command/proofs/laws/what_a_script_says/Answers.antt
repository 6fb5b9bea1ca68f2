use Rattle.std.proofs.Common.{ℕ, Option, Some, None}
use Rattle.command_io.specs.declared.ended.Ended.TheVariants as ends
use Rattle.stream_io.specs.Streams.{GainsFront, GainsText}
use Rattle.script_command.proofs.Ending.{of_whole, too_long, within}
use Rattle.script_command.proofs.laws.what_a_script_says.Goals as goal

pub returns : goal.returns
returns g c = let told = g.T.Script.text in let refuses = g.T.Script.refuses in record {
  bad_line = λ read input output line kind row. of_whole read input (λ bytes. refuses bytes (ends.BadLine line kind)) row.read row.cause;
  bad_site = λ read input output fault row. of_whole read input (λ bytes. refuses bytes (ends.BadSite fault)) row.read row.cause;
  bad_bus = λ read input output fault row. of_whole read input (λ bytes. refuses bytes (ends.BadBus fault)) row.read row.cause;
  too_long = too_long told refuses;
  read_fault = λ read input output row. row.cause;
  write_fault = λ read input output row. row.cause;
  within = within told refuses;
  gained = λ read input output row. of_whole read input (λ bytes. GainsText (told bytes None) output) row.read row.gained;
  gained_full = λ read input output calls row. of_whole read input (λ bytes. GainsText (told bytes (Some calls)) output) row.read row.gained;
  gained_front = λ read input output row. of_whole read input (λ bytes. GainsFront (λ text. (full : Option ℕ) × told bytes full text) output) row.read row.gained;
}
