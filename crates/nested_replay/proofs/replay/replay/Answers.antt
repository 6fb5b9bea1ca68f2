use Rattle.nested_replay.proofs.Playings.{starts_playing}
use Rattle.nested_replay.proofs.replay.replay.Goals as goal

pub play-requires : goal.play-requires
play-requires c = starts_playing c.args.opened.now c.in_ok-text.text.items c.requires c.in_ok-text.ensures
