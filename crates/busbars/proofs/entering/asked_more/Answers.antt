use Rattle.std.proofs.Common.{◌≡◌, ℕ, List, [], get_or, refl, ap, ◌∙◌, arith}
use Rattle.std.proofs.lemmas.Option.{slice_get_read}
use Rattle.plant_book.specs.declared.site.Unit as unit
use Rattle.plant_book.specs.Site.{SiteRecord, inverters}
use Rattle.plant_book.proofs.Inverters.{mw_at-is}
use Rattle.plant_book.proofs.Behind.{behind_nothing}
use Rattle.busbars.proofs.entering.asked_more.Goals as goal

pub returns : goal.returns
returns c =
    let plant = c.args.plant.now in
    let its = c.index-unit.result.now in
    let units : c.behind-plant.inside.units.items ≡ plant.site.units = ap (λ (s : SiteRecord). s.units) (c.behind-plant.view_is ∙ c.site.ensures) in
    let at : its ≡ get_or plant.site.units c.args.inverter its =
    c.index-unit.ensures ∙ ap (λ (us : List unit.Unit). get_or us c.from.result its) units ∙ ap (λ (i : ℕ). get_or plant.site.units i its) c.from.ensures in
    omega (
      arith,
      c.saturating_sub.ensures,
      c.mw.ensures.watts,
      mw_at-is plant.site c.args.inverter its (slice_get_read plant.site.units (inverters plant.site) c.args.inverter its refl c.requires.of_site at) c.args.raw,
      c.reserved.ensures [] (behind_nothing plant c.requires.kept.of_life c.requires.first),
    )
