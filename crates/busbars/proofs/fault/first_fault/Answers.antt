use Rattle.std.proofs.Common.{suc, take, drop, get_or, sym, subst}
use Rattle.plant_book.specs.Site.{SiteRecord, inverters, floor_at}
use Rattle.busbars.specs.Buses.{Fits, HasCause}
use Rattle.busbars.specs.Sums.{AreSums}
use Rattle.busbars.proofs.Lists.{parts_at, length_before, fits_more}
use Rattle.busbars.proofs.Under.{floors_are}
use Rattle.busbars.proofs.fault.first_fault.Goals as goal

pub cause_of-requires-clause-floors : goal.cause_of-requires-clause-floors
cause_of-requires-clause-floors c =
    subst (λ (s : SiteRecord). AreSums (inverters s) (floor_at s) c.reserved_below-floors.result) (sym c.site.ensures)
    (floors_are c.args.plant.now c.reserved_below-floors.result c.requires.no_call c.reserved_below-floors.ensures)

pub returns-in-Some : goal.returns-in-Some
returns-in-Some c =
    let buses = c.args.buses.now in
    let place = c.loop-place.place in
    let b = get_or buses place (record { cap = 0; lo = 0; hi = 0 }) in
    record {
      before = take place buses;
      first = b;
      later = drop (suc place) buses;
      are = parts_at buses place (record { cap = 0; lo = 0; hi = 0 }) c.loop-place-test.true;
      place = length_before buses place c.loop-place-test.true;
      fit = c.loop-place.invariant;
      cause = subst (λ (s : SiteRecord). HasCause s (take place buses) b c.in-Some.cause) c.site.ensures c.in-Some.ensures;
    }

pub loop-place-preserved : goal.loop-place-preserved
loop-place-preserved c =
    let buses = c.args.buses.now in
    let place = c.loop-place.place in
    let b = get_or buses place (record { cap = 0; lo = 0; hi = 0 }) in
    fits_more c.args.plant.now.site buses place (record { cap = 0; lo = 0; hi = 0 }) c.loop-place-test.true c.loop-place.invariant
    (subst (λ (s : SiteRecord). Fits s (take place buses) b) c.site.ensures c.in_default.ensures)
