use Rattle.std.proofs.Common.{Some, refl, ap}
use Rattle.plant_desk.specs.Rule.{Sat}
use Rattle.plant_desk.proofs.Ends.{is_closed}
use Rattle.plant_desk.proofs.desk.PlantDesk.close.Goals as goal

pub returns-clause-closed : goal.returns-clause-closed
returns-clause-closed c =
    is_closed c.args.self c.args.passes.items c.merge-place.result.me.0.hands (Some c.take_out.result) c.requires.of_desk (ap (λ (m : Sat). m.0.hands) c.merge-place.ensures.all) c.take_out.ensures c.take_out.result refl
