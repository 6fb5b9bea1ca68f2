use Rattle.std.proofs.Common.{[], subst}
use Rattle.busbars.specs.Buses.{EachFits}
use Rattle.plant_book.specs.Part.{book_behind}
use Rattle.busbars.proofs.Under.{fitting_each, holds_under}
use Rattle.busbars.proofs.plant.BusPlant.new.Goals as goal

pub invariant_of-result : goal.invariant_of-result
invariant_of-result c =
    let plant = c.args.plant in
    let buses = c.args.buses.items in
    let fit = subst (EachFits plant.site []) c.deref.ensures.value c.in-None.ensures in
    record {
      kept = c.calls-calls.ensures.kept;
      first = c.requires.first;
      few = c.requires.few;
      low = c.requires.low;
      fit = fit;
      under = fitting_each buses plant c.requires.no_call c.requires.first fit;
    }

pub returns-in-None-clause-under : goal.returns-in-None-clause-under
returns-in-None-clause-under c =
    let plant = c.args.plant in
    fitting_each c.args.buses.items plant c.requires.no_call c.requires.first (subst (EachFits plant.site []) c.deref.ensures.value c.in-None.ensures)

pub returns-in-None-clause-holds : goal.returns-in-None-clause-holds
returns-in-None-clause-holds c before behind =
    let plant = c.args.plant in
    let fit = subst (EachFits plant.site []) c.deref.ensures.value c.in-None.ensures in
    holds_under c.args.buses.items (book_behind before plant) (fitting_each c.args.buses.items plant c.requires.no_call c.requires.first fit before behind)
