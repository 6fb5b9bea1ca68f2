use Rattle.script_replay.proofs.Lives.{life_replays}
use Rattle.script_replay.proofs.laws.lives_replay_as_themselves.Goals as goal

pub returns : goal.returns
returns c = life_replays
