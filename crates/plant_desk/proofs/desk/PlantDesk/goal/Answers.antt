use Rattle.std.proofs.Common.{◌≡◌, ◌<◌, sym, ap, subst, ◌∙◌}
use Rattle.plant_book.specs.Site.{SiteRecord, inverters}
use Rattle.plant_book.specs.Book.{BookRecord}
use Rattle.plant_book.specs.Part.{PartRecord}
use Rattle.plant_book.specs.Answer.{goal_raw, is_stopped}
use Rattle.plant_book.specs.Reserved as sums
use Rattle.plant_desk.specs.Deeds.{joined}
use Rattle.plant_desk.specs.Hands.{first_hand}
use Rattle.plant_desk.specs.Rule.{Sat, told}
use Rattle.plant_desk.specs.Passes.{DeskRecord, PassRecord}
use Rattle.plant_desk.proofs.Passes.{site-plant_of}
use Rattle.plant_desk.specs.Kept.{hand_of}
use Rattle.plant_desk.proofs.Fields.{looks_same, is_pass, looks, at_joined}
use Rattle.plant_desk.proofs.desk.PlantDesk.goal.Goals as goal

pub goal-goal-requires : goal.goal-goal-requires
goal-goal-requires g c =
    let out = c.take_turn-plant.ensures.taken (hand_of c.pass.inside) c.pass.invariant in
    let site : c.take_turn-plant.result.site ≡ c.args.self.now.book.site =
    ap (λ (p : PartRecord). p.site) out.on ∙ site-plant_of (told (hand_of c.pass.inside) out.between) ∙ ap (λ (v : PassRecord). v.desk.book.site) c.pass.view_is ∙ ap (λ (d : DeskRecord). d.book.site) c.requires.of_desk in
    subst (λ (s : SiteRecord). c.args.inverter < inverters s) (sym site) c.requires.of_site

pub give_back-requires-clause-holds : goal.give_back-requires-clause-holds
give_back-requires-clause-holds g c =
    let out = c.take_turn-plant.ensures.taken (hand_of c.pass.inside) c.pass.invariant in
    (told (hand_of c.pass.inside) out.between, out.holds, out.on)

pub invariant_of-pass : goal.invariant_of-pass
invariant_of-pass g c =
    let out = c.take_turn-plant.ensures.taken (hand_of c.pass.inside) c.pass.invariant in
    is_pass c.pass.inside c.give_back.new.place out.between (c.give_back.ensures.given (told (hand_of c.pass.inside) out.between) out.holds)

pub returns-clause-looks : goal.returns-clause-looks
returns-clause-looks g c =
    let out = c.take_turn-plant.ensures.taken (hand_of c.pass.inside) c.pass.invariant in
    looks c.pass.inside _ _ _ c.give_back.new.place c.pass.view_is out (c.give_back.ensures.given (told (hand_of c.pass.inside) out.between) out.holds)
    (c.give_back.ensures.same ∙ c.take_turn-plant.ensures.same)

pub returns-clause-raw : goal.returns-clause-raw
returns-clause-raw g c =
    let out = c.take_turn-plant.ensures.taken (hand_of c.pass.inside) c.pass.invariant in
    let one = told (hand_of c.pass.inside) out.between in
    subst (λ (m : Sat). c.goal-goal.result.raw ≡ goal_raw (joined (first_hand m.0).plant (first_hand m.0).seen) c.args.inverter) (sym (c.give_back.ensures.given one out.holds))
    (at_joined one _ (λ (b : BookRecord). c.goal-goal.result.raw ≡ goal_raw b c.args.inverter) out.on out.answered c.goal-goal.ensures.raw)

pub returns-clause-reserved : goal.returns-clause-reserved
returns-clause-reserved g c =
    let out = c.take_turn-plant.ensures.taken (hand_of c.pass.inside) c.pass.invariant in
    let one = told (hand_of c.pass.inside) out.between in
    subst (λ (m : Sat). c.goal-goal.result.reserved ≡ sums.reserved (joined (first_hand m.0).plant (first_hand m.0).seen) c.args.inverter) (sym (c.give_back.ensures.given one out.holds))
    (at_joined one _ (λ (b : BookRecord). c.goal-goal.result.reserved ≡ sums.reserved b c.args.inverter) out.on out.answered c.goal-goal.ensures.reserved)

pub returns-clause-stop : goal.returns-clause-stop
returns-clause-stop g c =
    let out = c.take_turn-plant.ensures.taken (hand_of c.pass.inside) c.pass.invariant in
    let one = told (hand_of c.pass.inside) out.between in
    subst (λ (m : Sat). c.goal-goal.result.stop ≡ is_stopped (joined (first_hand m.0).plant (first_hand m.0).seen)) (sym (c.give_back.ensures.given one out.holds))
    (at_joined one _ (λ (b : BookRecord). c.goal-goal.result.stop ≡ is_stopped b) out.on out.answered c.goal-goal.ensures.stop)

pub returns-clause-same : goal.returns-clause-same
returns-clause-same g c = looks_same _ _ (returns-clause-looks g c)
