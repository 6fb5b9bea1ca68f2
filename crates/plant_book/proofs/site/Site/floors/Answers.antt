use Rattle.std.proofs.Common.{sym, ap, ◌∙◌}
use Rattle.std.specs.Prelude.{sum_by}
use Rattle.limiter_num.specs.Rating.{mw}
use Rattle.plant_book.specs.declared.site.Unit as unit
use Rattle.plant_book.specs.Site.{SiteRecord}
use Rattle.plant_book.proofs.Inverters.{floors-is}
use Rattle.plant_book.proofs.site.Site.floors.Goals as goal

pub returns : goal.returns
returns c =
    c.floors.ensures ∙ ap (sum_by (λ (u : unit.Unit). mw u.rating u.floor)) (c.deref.ensures.value ∙ ap (λ (s : SiteRecord). s.units) c.self.view_is)
    ∙ sym (floors-is c.args.self.now)
