use Rattle.script_replay.proofs.Plays.{begins_life, on_ok}
use Rattle.script_replay.proofs.playing.restart.Goals as goal

pub returns : goal.returns
returns c =
    on_ok c.restart_text.result _ _ (λ added. begins_life c.args.plant.now c.in_ok-plant.field-0 c.args.at c.args.text.now.items c.restart_text.new.out.items c.requires.0 c.requires.1 c.in_ok-plant.ensures.0 c.in_ok-plant.ensures.1 added)
    c.restart_text.ensures.text
