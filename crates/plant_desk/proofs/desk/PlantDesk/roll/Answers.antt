use Rattle.std.proofs.Common.{[], ◌∷◌, ◌++◌, ◌∙◌}
use Rattle.plant_desk.specs.declared.deed.Deed.TheVariants.{Rolled}
use Rattle.plant_desk.specs.Rule.{told}
use Rattle.plant_desk.proofs.Passes.{has_rolled}
use Rattle.plant_desk.specs.Kept.{hand_of}
use Rattle.plant_desk.proofs.Fields.{rolls_same, looks_same, is_pass, twice, rolls_over, refuses_roll}
use Rattle.plant_desk.proofs.desk.PlantDesk.roll.Goals as goal

pub give_rolled-requires-clause-holds : goal.give_rolled-requires-clause-holds
give_rolled-requires-clause-holds g c =
    let out = c.take_turn-plant.ensures.taken (hand_of c.pass.inside) c.pass.invariant in
    let one = told (hand_of c.pass.inside) out.between in
    (one, out.holds, has_rolled one _ _ out.on out.answered c.in-Ok.ensures.lives)

pub invariant_of-pass : goal.invariant_of-pass
invariant_of-pass g c =
    let out = c.take_turn-plant.ensures.taken (hand_of c.pass.inside) c.pass.invariant in
    let one = told (hand_of c.pass.inside) out.between in
    let deed = Rolled one.number in
    is_pass c.pass.inside c.give_rolled.new.place (out.between ++ deed ∷ []) (twice (hand_of c.pass.inside) out.between (deed ∷ []) _ (c.give_rolled.ensures.given one out.holds))

pub give_back-requires-clause-holds : goal.give_back-requires-clause-holds
give_back-requires-clause-holds g c =
    let out = c.take_turn-plant.ensures.taken (hand_of c.pass.inside) c.pass.invariant in
    (told (hand_of c.pass.inside) out.between, out.holds, c.in-Err.ensures.unchanged ∙ out.on)

pub invariant_of-pass-in-Err : goal.invariant_of-pass-in-Err
invariant_of-pass-in-Err g c =
    let out = c.take_turn-plant.ensures.taken (hand_of c.pass.inside) c.pass.invariant in
    is_pass c.pass.inside c.give_back.new.place out.between (c.give_back.ensures.given (told (hand_of c.pass.inside) out.between) out.holds)

pub returns-in-Ok-clause-ended : goal.returns-in-Ok-clause-ended
returns-in-Ok-clause-ended g c =
    let out = c.take_turn-plant.ensures.taken (hand_of c.pass.inside) c.pass.invariant in
    let one = told (hand_of c.pass.inside) out.between in
    rolls_over c.pass.inside _ _ _ c.give_rolled.new.place c.pass.view_is out (c.give_rolled.ensures.same ∙ c.take_turn-plant.ensures.same) _ _ c.in-Ok.ensures.ended
    (has_rolled one _ _ out.on out.answered c.in-Ok.ensures.lives) (c.give_rolled.ensures.given one out.holds)

pub returns-in-Err-clause-refused : goal.returns-in-Err-clause-refused
returns-in-Err-clause-refused g c =
    let out = c.take_turn-plant.ensures.taken (hand_of c.pass.inside) c.pass.invariant in
    refuses_roll c.pass.inside _ _ _ c.give_back.new.place c.pass.view_is out (c.give_back.ensures.same ∙ c.take_turn-plant.ensures.same) _
    (c.give_back.ensures.given (told (hand_of c.pass.inside) out.between) out.holds) c.in-Err.ensures.refused

pub returns-in-Ok-clause-same : goal.returns-in-Ok-clause-same
returns-in-Ok-clause-same g c = rolls_same _ _ _ (returns-in-Ok-clause-ended g c)

pub returns-in-Err-clause-same : goal.returns-in-Err-clause-same
returns-in-Err-clause-same g c = looks_same _ _ (returns-in-Err-clause-refused g c).looks
