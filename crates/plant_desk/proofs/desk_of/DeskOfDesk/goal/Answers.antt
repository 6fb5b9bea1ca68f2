-- What a goal leaves of the desk of a pass, and that it is one that the desk may tell.
use Rattle.std.proofs.Common.{subst}
use Rattle.plant_desk.specs.Passes.{PassRecord, Looks}
use Rattle.plant_desk.proofs.Later.{tests_last, kept_lasts}
use Rattle.plant_desk.proofs.Meant.{looks_later, looks_none, looks_few, tells}
use Rattle.plant_desk.proofs.desk_of.DeskOfDesk.goal.Goals as goal

pub returns : goal.returns
returns g c =
    let old = c.args.self.now in
    let new = c.goal.new.pass in
    let looks = subst (λ (p : PassRecord). Looks p new) c.self.view_is c.goal.ensures.looks in
    let later = looks_later old new looks in
    record {
      none = looks_none old new looks;
      told = tells new c.args.inverter c.goal.result (record { raw = c.goal.ensures.raw; reserved = c.goal.ensures.reserved; stop = c.goal.ensures.stop });
      last = tests_last old new later;
      kept = kept_lasts old new later;
      few = looks_few old new looks;
    }
