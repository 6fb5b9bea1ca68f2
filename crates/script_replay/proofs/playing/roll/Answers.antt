use Rattle.script_replay.proofs.Plays.{rolls, on_ok}
use Rattle.script_replay.proofs.playing.roll.Goals as goal

pub returns : goal.returns
returns c =
    on_ok c.roll_text.result _ _ (λ added. rolls c.args.plant.now c.next_book.new.plant c.args.text.now.items c.roll_text.new.out.items c.in_ok-next_book.ensures added) c.roll_text.ensures.text
