use Rattle.nested_replay.proofs.Rows.{fits_behind}
use Rattle.nested_replay.proofs.judging.judge.Goals as goal

pub moved-requires : goal.moved-requires
moved-requires c = fits_behind c.args.bytes.now c.in-Ok.front c.in-Err-one_life.fault c.requires c.in-Ok.ensures c.in-Err-one_life.ensures
