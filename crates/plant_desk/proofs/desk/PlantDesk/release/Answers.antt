use Rattle.std.proofs.Common.{◌<◌, [], ◌∷◌, ◌++◌, sym, ap, subst, ◌∙◌, refl, length}
use Rattle.plant_book.specs.Site.{SiteRecord, inverters}
use Rattle.plant_book.specs.Part.{PartRecord}
use Rattle.plant_ledger.specs.Release.{back_of}
use Rattle.plant_desk.specs.declared.deed.Deed.TheVariants.{Entered}
use Rattle.plant_desk.specs.Rule.{told}
use Rattle.plant_desk.specs.Passes.{DeskRecord}
use Rattle.plant_desk.proofs.Passes.{has_one_more}
use Rattle.plant_desk.specs.Kept.{hand_of}
use Rattle.plant_desk.proofs.Fields.{enters_same, looks_same, is_pass, twice, site_is, enters, finds_full}
use Rattle.plant_desk.proofs.desk.PlantDesk.release.Goals as goal

pub release-requires-clause-of_site : goal.release-requires-clause-of_site
release-requires-clause-of_site g c =
    let out = c.take_turn-plant.ensures.taken (hand_of c.pass.inside) c.pass.invariant in
    let site = site_is c.pass.inside _ _ _ c.pass.inside.place c.pass.view_is out refl ∙ ap (λ (d : DeskRecord). d.book.site) c.requires.of_desk in
    subst (λ (s : SiteRecord). c.args.ticket.inverter < inverters s) (sym site) c.requires.of_site

pub give_entered-requires-clause-holds : goal.give_entered-requires-clause-holds
give_entered-requires-clause-holds g c =
    let out = c.take_turn-plant.ensures.taken (hand_of c.pass.inside) c.pass.invariant in
    let one = told (hand_of c.pass.inside) out.between in
    let is = has_one_more one _ _ (back_of c.args.ticket c.args.at) c.in-Ok.reply out.on out.answered c.in-Ok.ensures.entered c.in-Ok.ensures.lives (c.in-Ok.ensures.room.0 refl) in
    (one, out.holds, is.more)

pub invariant_of-pass : goal.invariant_of-pass
invariant_of-pass g c =
    let out = c.take_turn-plant.ensures.taken (hand_of c.pass.inside) c.pass.invariant in
    let one = told (hand_of c.pass.inside) out.between in
    let is = has_one_more one _ _ (back_of c.args.ticket c.args.at) c.in-Ok.reply out.on out.answered c.in-Ok.ensures.entered c.in-Ok.ensures.lives (c.in-Ok.ensures.room.0 refl) in
    let deed = Entered one.number is.more.entry in
    is_pass c.pass.inside c.give_entered.new.place (out.between ++ deed ∷ []) (twice (hand_of c.pass.inside) out.between (deed ∷ []) _ (c.give_entered.ensures.given one is.more out.holds))

pub refuse_full-requires-clause-holds : goal.refuse_full-requires-clause-holds
refuse_full-requires-clause-holds g c =
    let out = c.take_turn-plant.ensures.taken (hand_of c.pass.inside) c.pass.invariant in
    (told (hand_of c.pass.inside) out.between, out.holds, c.in-Err.ensures.full.3 ∙ out.on)

pub invariant_of-pass-in-Err : goal.invariant_of-pass-in-Err
invariant_of-pass-in-Err g c =
    let out = c.take_turn-plant.ensures.taken (hand_of c.pass.inside) c.pass.invariant in
    is_pass c.pass.inside c.refuse_full.new.place out.between (c.refuse_full.ensures.given (told (hand_of c.pass.inside) out.between) out.holds)

pub returns-in-Ok-clause-entered : goal.returns-in-Ok-clause-entered
returns-in-Ok-clause-entered g c =
    let out = c.take_turn-plant.ensures.taken (hand_of c.pass.inside) c.pass.invariant in
    let one = told (hand_of c.pass.inside) out.between in
    let is = has_one_more one _ _ (back_of c.args.ticket c.args.at) c.in-Ok.reply out.on out.answered c.in-Ok.ensures.entered c.in-Ok.ensures.lives (c.in-Ok.ensures.room.0 refl) in
    enters c.pass.inside _ _ _ c.give_entered.new.place c.pass.view_is out (c.give_entered.ensures.same ∙ c.take_turn-plant.ensures.same) _ (back_of c.args.ticket c.args.at) c.in-Ok.reply is
    (c.give_entered.ensures.given one is.more out.holds)

pub returns-in-Err-clause-full : goal.returns-in-Err-clause-full
returns-in-Err-clause-full g c =
    let out = c.take_turn-plant.ensures.taken (hand_of c.pass.inside) c.pass.invariant in
    let same = ap (λ (b : PartRecord). length b.entries) c.in-Err.ensures.full.3 in
    let calls = c.refuse_full.ensures.calls ∙ same in
    finds_full c.pass.inside _ _ _ c.refuse_full.new.place c.pass.view_is out (c.refuse_full.ensures.same ∙ c.take_turn-plant.ensures.same) c.refuse_full.result.calls calls
    (calls ∙ sym c.in-Err.ensures.full.0 ∙ c.in-Err.ensures.full.1) (c.refuse_full.ensures.given (told (hand_of c.pass.inside) out.between) out.holds)

pub returns-in-Ok-clause-same : goal.returns-in-Ok-clause-same
returns-in-Ok-clause-same g c = enters_same _ _ _ _ (returns-in-Ok-clause-entered g c)

pub returns-in-Err-clause-same : goal.returns-in-Err-clause-same
returns-in-Err-clause-same g c = looks_same _ _ (returns-in-Err-clause-full g c).looks
