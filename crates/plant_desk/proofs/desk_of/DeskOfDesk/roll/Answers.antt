-- What a roll leaves of the desk of a pass.
use Rattle.std.proofs.Common.{subst}
use Rattle.plant_desk.specs.Passes.{PassRecord}
use Rattle.plant_desk.proofs.Later.{tests_last, kept_lasts}
use Rattle.plant_desk.proofs.Meant.{Rolls, rolled}
use Rattle.plant_desk.proofs.desk_of.DeskOfDesk.roll.Goals as goal

pub returns : goal.returns
returns g c =
    let old = c.args.self.now in
    let new = c.roll.new.pass in
    let is : Rolls c.roll.result new c.self.inside.pass = record { ended = c.roll.ensures.ended; refused = c.roll.ensures.refused } in
    let done = rolled c.roll.result new old (subst (λ (p : PassRecord). Rolls c.roll.result new p) c.self.view_is is) in
    record {
      rolled = done.rolled;
      ended = done.ended;
      none = done.none;
      refused = done.refused;
      full_life = done.full_life;
      last = tests_last old new done.later;
      kept = kept_lasts old new done.later;
      few = done.few;
    }
