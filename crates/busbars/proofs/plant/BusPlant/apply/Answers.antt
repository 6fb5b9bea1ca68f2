use Rattle.std.proofs.Common.{List, [], sym, subst, ◌∙◌}
use Rattle.std.specs.List.{AllByRecursion}
use Rattle.plant_book.specs.Site.{SiteRecord}
use Rattle.plant_book.specs.Part.{book_behind}
use Rattle.busbars.specs.declared.bus.Bus as bus
use Rattle.busbars.specs.Buses.{IsOfSite, EachFits}
use Rattle.busbars.specs.Applied.{IsApplied}
use Rattle.busbars.proofs.Lists.{each_that_fits}
use Rattle.busbars.proofs.Under.{applied_under, applied_same, holds_under}
use Rattle.busbars.proofs.plant.BusPlant.apply.Goals as goal

pub enter-requires-clause-buses_of_site : goal.enter-requires-clause-buses_of_site
enter-requires-clause-buses_of_site c =
    let site = c.self.inside.plant.site in
    subst (AllByRecursion (IsOfSite site)) (sym c.deref.ensures.value)
    (each_that_fits site (IsOfSite site) (λ earlier b fits. fits.of_site) [] c.self.inside.buses.items c.self.invariant.fit)

pub invariant_of-self : goal.invariant_of-self
invariant_of-self c =
    let old = c.self.inside.plant in
    let new = c.enter.new.plant in
    let buses = c.self.inside.buses.items in
    let applied = subst (λ (bs : List bus.Bus). IsApplied bs c.args.call c.enter.result old new) c.deref.ensures.value c.enter.ensures.applied in
    let same = applied_same buses c.args.call c.enter.result old new applied in
    record {
      kept = c.enter.ensures.kept;
      first = same.carry ∙ c.self.invariant.first;
      few = c.self.invariant.few;
      low = c.self.invariant.low;
      fit = subst (λ (site : SiteRecord). EachFits site [] buses) (sym same.site) c.self.invariant.fit;
      under = applied_under buses c.args.call c.enter.result old new applied c.self.invariant.under;
    }

pub returns-clause-under : goal.returns-clause-under
returns-clause-under c =
    let old = c.self.inside.plant in
    let new = c.enter.new.plant in
    let buses = c.self.inside.buses.items in
    let applied = subst (λ (bs : List bus.Bus). IsApplied bs c.args.call c.enter.result old new) c.deref.ensures.value c.enter.ensures.applied in
    applied_under buses c.args.call c.enter.result old new applied c.self.invariant.under

pub returns-clause-holds : goal.returns-clause-holds
returns-clause-holds c before behind =
    let old = c.self.inside.plant in
    let new = c.enter.new.plant in
    let buses = c.self.inside.buses.items in
    let applied = subst (λ (bs : List bus.Bus). IsApplied bs c.args.call c.enter.result old new) c.deref.ensures.value c.enter.ensures.applied in
    holds_under buses (book_behind before new) (applied_under buses c.args.call c.enter.result old new applied c.self.invariant.under before behind)
