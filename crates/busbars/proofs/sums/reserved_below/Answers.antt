use Rattle.std.proofs.Common.{◌≡◌, ◌+◌, ◌<◌, [], refl, ap, ◌∙◌, arith, length-set}
use Rattle.std.specs.Prelude.{slice_index}
use Rattle.plant_book.specs.Site.{SiteRecord, inverters}
use Rattle.plant_book.specs.Reserved.{reserved}
use Rattle.plant_book.specs.Part.{first_book}
use Rattle.plant_book.proofs.Behind.{behind_nothing}
use Rattle.busbars.proofs.Members.{no_sum, sum_more, sums_push, reserved_low, few_inverters}
use Rattle.busbars.proofs.sums.reserved_below.Goals as goal

pub loop-inverter-init : goal.loop-inverter-init
loop-inverter-init c = record {
  are = λ below le. let none : below ≡ 0 = omega arith in rw none (no_sum (reserved (first_book c.args.plant.now)));
  room = refl;
}

pub overflow_add-sums : goal.overflow_add-sums
overflow_add-sums c =
    let plant = c.args.plant.now in
    let i = c.loop-inverter.inverter in
    let within : i < inverters plant.site = omega (arith, c.loop-inverter-test.true, c.len-inverter-end.ensures, ap (λ (s : SiteRecord). inverters s) (c.behind-plant.view_is ∙ c.site.ensures)) in
    omega (
      arith,
      c.loop-inverter.invariant.are i (omega arith),
      c.reserved.ensures [] (behind_nothing plant c.requires.kept.of_life c.requires.first),
      sum_more i (reserved (first_book plant)),
      reserved_low plant c.requires.kept c.requires.first (i + 1) (omega (arith, within)),
    )

pub loop-inverter-preserved : goal.loop-inverter-preserved
loop-inverter-preserved c =
    let plant = c.args.plant.now in
    let i = c.loop-inverter.inverter in
    let within : i < inverters plant.site = omega (arith, c.loop-inverter-test.true, c.len-inverter-end.ensures, ap (λ (s : SiteRecord). inverters s) (c.behind-plant.view_is ∙ c.site.ensures)) in
    record {
      are = sums_push i (reserved (first_book plant)) c.loop-inverter.sums c.reserved.result c.loop-inverter.invariant.are
          (omega (arith, within, c.loop-inverter.invariant.room, few_inverters plant c.requires.kept c.requires.first))
          (c.reserved.ensures [] (behind_nothing plant c.requires.kept.of_life c.requires.first));
      room = length-set c.loop-inverter.sums (i + 1) (slice_index c.loop-inverter.sums i + c.reserved.result) ∙ c.loop-inverter.invariant.room;
    }
