-- What a release leaves of the desk of a pass.
use Rattle.std.proofs.Common.{subst}
use Rattle.plant_book.specs.declared.call.Reply.{Reply}
use Rattle.plant_ledger.specs.Release.{back_of}
use Rattle.plant_desk.specs.Passes.{PassRecord}
use Rattle.plant_desk.proofs.Later.{tests_last, kept_lasts}
use Rattle.plant_desk.proofs.Meant.{Applied, called}
use Rattle.plant_desk.proofs.desk_of.DeskOfDesk.release.Goals as goal

pub returns : goal.returns
returns g c =
    let old = c.args.self.now in
    let new = c.release.new.pass in
    let reply = λ (r : Reply). r in
    let back = back_of c.args.ticket c.args.at in
    let is : Applied reply back c.release.result new c.self.inside.pass = record { entered = c.release.ensures.entered; full = c.release.ensures.full } in
    let done = called reply back c.release.result new old c.requires.moment (subst (λ (p : PassRecord). Applied reply back c.release.result new p) c.self.view_is is) in
    record {
      entered = done.entered;
      none = done.none;
      full = done.full;
      room = done.room;
      last = tests_last old new done.later;
      kept = kept_lasts old new done.later;
      few = done.few;
    }
