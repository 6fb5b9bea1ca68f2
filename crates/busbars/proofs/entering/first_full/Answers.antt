use Rattle.std.proofs.Common.{◌≡◌, ◌+◌, suc, take, drop, get_or, sym, ◌∙◌, arith}
use Rattle.plant_book.specs.Site.{inverters}
use Rattle.plant_book.specs.Reserved.{reserved}
use Rattle.plant_book.specs.Part.{first_book}
use Rattle.busbars.specs.Buses.{IsOfSite}
use Rattle.busbars.specs.Caps.{left_on}
use Rattle.busbars.proofs.Lists.{all_at, parts_at, length_before}
use Rattle.busbars.proofs.Members.{sums_rise}
use Rattle.busbars.proofs.entering.first_full.Goals as goal

pub sum_on-requires-clause-rising : goal.sum_on-requires-clause-rising
sum_on-requires-clause-rising c =
    let plant = c.args.plant.now in
    let b = get_or c.args.buses.now c.loop-place.place (record { cap = 0; lo = 0; hi = 0 }) in
    let of_site = all_at (IsOfSite plant.site) c.args.buses.now c.loop-place.place (record { cap = 0; lo = 0; hi = 0 }) c.loop-place-test.true c.requires.buses_of_site in
    sums_rise (inverters plant.site) (reserved (first_book plant)) c.reserved_below-reserved.result c.reserved_below-reserved.ensures b.lo (b.hi + 1) (omega (arith, of_site.0)) (omega (arith, of_site.1))

pub returns-then-left-more : goal.returns-then-left-more
returns-then-left-more c =
    let plant = c.args.plant.now in
    let book = first_book plant in
    let buses = c.args.buses.now in
    let place = c.loop-place.place in
    let b = get_or buses place (record { cap = 0; lo = 0; hi = 0 }) in
    let of_site = all_at (IsOfSite plant.site) buses place (record { cap = 0; lo = 0; hi = 0 }) c.loop-place-test.true c.requires.buses_of_site in
    let left : c.saturating_sub-left.result ≡ left_on book b = omega (arith, c.saturating_sub-left.ensures, c.sum_on.ensures plant.site (reserved book) c.reserved_below-reserved.ensures of_site) in
    record {
      before = take place buses;
      full = b;
      later = drop (suc place) buses;
      are = parts_at buses place (record { cap = 0; lo = 0; hi = 0 }) c.loop-place-test.true;
      place_is = length_before buses place c.loop-place-test.true;
      room = c.loop-place.invariant;
      lacks = (sym c.holds.ensures ∙ c.if-holds.true, omega (arith, left, c.asked_more-more.ensures, c.if-left-more.true));
      left_is = left;
    }
