use Rattle.std.proofs.Common.{◌++◌}
use Rattle.site_run.specs.Report.{text_of_run}
use Rattle.site_run.proofs.Written.{all_written}
use Rattle.site_run.proofs.laws.runs_replay_as_their_lives.Goals as goal

pub returns : goal.returns
returns g c = λ may_give file turns dialers dialers_now plant workers console left left_now taken taken_now run whole.
    let all = all_written may_give run.life plant workers console left left_now taken taken_now run.answered run.last run.operator whole in
    (all.0, all.1, c.lives_replay_as_themselves.ensures run.life (all.0 ++ text_of_run plant workers) run.answered all.2)
