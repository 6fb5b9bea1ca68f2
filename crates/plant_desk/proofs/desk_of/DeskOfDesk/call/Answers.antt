-- What a call leaves of the desk of a pass.
use Rattle.plant_ledger.specs.declared.plant.Outcome.{Outcome}
use Rattle.std.proofs.Common.{subst}
use Rattle.plant_desk.specs.Passes.{PassRecord}
use Rattle.plant_desk.proofs.Later.{tests_last, kept_lasts}
use Rattle.plant_desk.proofs.Meant.{Applied, called}
use Rattle.plant_desk.proofs.desk_of.DeskOfDesk.call.Goals as goal

pub returns : goal.returns
returns g c =
    let old = c.args.self.now in
    let new = c.apply.new.pass in
    let reply = λ (outcome : Outcome). outcome.reply in
    let is : Applied reply c.args.call c.apply.result new c.self.inside.pass = record { entered = c.apply.ensures.entered; full = c.apply.ensures.full } in
    let done = called reply c.args.call c.apply.result new old c.requires.moment (subst (λ (p : PassRecord). Applied reply c.args.call c.apply.result new p) c.self.view_is is) in
    record {
      entered = done.entered;
      ticket = c.apply.ensures.ticket;
      none = done.none;
      full = done.full;
      room = done.room;
      last = tests_last old new done.later;
      kept = kept_lasts old new done.later;
      few = done.few;
    }
