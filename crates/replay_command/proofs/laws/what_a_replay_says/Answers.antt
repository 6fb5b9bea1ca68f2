use Rattle.std.specs.Prelude.{None, Some}
use Rattle.script_text.specs.Script.{IsFirstBadLine}
use Rattle.script_replay.specs.Replay.{IsReplay}
use Rattle.stream_io.specs.Streams.{GainsFront, GainsText}
use Rattle.script_command.proofs.Ending.{gains, of_whole, too_long, within}
use Rattle.replay_command.specs.Replay.{HasBadSite, IsReplayText, RefusesScript, TellsSafeLives}
use Rattle.replay_command.proofs.Replaying.{read_whole, tells}
use Rattle.replay_command.proofs.laws.what_a_replay_says.Goals as goal

pub returns : goal.returns
returns c = record {
  bad_line = λ read input output line kind row. of_whole read input (λ bytes. IsFirstBadLine bytes line kind) row.read row.cause;
  bad_site = λ read input output fault row. of_whole read input (λ bytes. HasBadSite bytes fault) row.read row.cause;
  too_long = too_long IsReplay RefusesScript;
  read_fault = λ read input output row. row.cause;
  write_fault = λ read input output row. row.cause;
  within = λ ended read input output row is. within IsReplay RefusesScript ended read input output row (read_whole ended is);
  gained = λ read input output row. of_whole read input (λ bytes. GainsText (IsReplay bytes None) output) row.read row.gained;
  gained_full = λ read input output calls row. of_whole read input (λ bytes. GainsText (IsReplay bytes (Some calls)) output) row.read row.gained;
  gained_front = λ read input output row. of_whole read input (λ bytes. GainsFront (IsReplayText bytes) output) row.read row.gained;
  safe_lives = gains IsReplay RefusesScript TellsSafeLives tells;
}
