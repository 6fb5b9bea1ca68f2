use Rattle.std.proofs.Common.{rules}
use Rattle.script_replay.proofs.Plays.{enters}
use Rattle.script_replay.proofs.playing.enter.Goals as goal

pub returns-in_ok-entry_text-in-Ok : goal.returns-in_ok-entry_text-in-Ok
returns-in_ok-entry_text-in-Ok c =
    enters c.args.plant.now c.apply.new.self c.args.call c.in-Ok.outcome.reply c.args.text.now.items c.entry_text.new.out.items c.requires.3 (c.in-Ok.ensures.room.0 (search rules)) c.in-Ok.ensures.entered c.in-Ok.ensures.lives
    c.in_ok-entry_text-in-Ok.ensures.text
