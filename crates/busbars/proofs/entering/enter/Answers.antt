use Rattle.std.proofs.Common.{refl, sym, subst}
use Rattle.std.specs.Prelude.{Result}
use Rattle.plant_ledger.specs.declared.plant.BookFull.{BookFull}
use Rattle.busbars.specs.declared.plant.BusReply.{BusReply}
use Rattle.busbars.specs.Applied.{IsApplied}
use Rattle.busbars.proofs.Asking.{is_error, when_full, when_room, when_no_place}
use Rattle.busbars.proofs.entering.enter.Goals as goal

pub returns-in_err-apply-in-None-clause-applied : goal.returns-in_err-apply-in-None-clause-applied
returns-in_err-apply-in-None-clause-applied c =
    let ticked = c.in_ok-apply-2.ensures in
    let refused = c.in_err-apply-in-None.ensures in
    let full = c.in_err-apply-in-None.field-0.0 in
    let result = c.from_residual-in_err-apply-in-None.result in
    subst (λ (r : Result BusReply BookFull). IsApplied c.args.buses.now c.args.call r c.args.plant.now c.apply-in-None.new.self) (sym (is_error result full c.from_residual-in_err-apply-in-None.ensures.1))
    (when_no_place c.args.buses.now c.args.call c.in-Ask.at c.in-Ask.inverter c.in-Ask.raw c.in-Ask.is c.args.plant.now c.apply-2.new.self c.in_ok-apply-2.field-0 c.requires.first
    (ticked.room.0 refl, ticked.entered, ticked.ticket, ticked.lives) c.in-None.ensures c.apply-in-None.new.self full refused.full)

pub returns-in-Some-clause-applied : goal.returns-in-Some-clause-applied
returns-in-Some-clause-applied c =
    let ticked = c.in_ok-apply-2.ensures in
    when_full c.args.buses.now c.args.call c.in-Ask.at c.in-Ask.inverter c.in-Ask.raw c.in-Ask.is c.args.plant.now c.apply-2.new.self c.in_ok-apply-2.field-0 c.requires.first
    (ticked.room.0 refl, ticked.entered, ticked.ticket, ticked.lives) c.in-Some.bus c.in-Some.left c.in-Some.ensures

pub returns-in_ok-apply-in-None-clause-applied : goal.returns-in_ok-apply-in-None-clause-applied
returns-in_ok-apply-in-None-clause-applied c =
    let ticked = c.in_ok-apply-2.ensures in
    let plain = c.in_ok-apply-in-None.ensures in
    when_room c.args.buses.now c.args.call c.in-Ask.at c.in-Ask.inverter c.in-Ask.raw c.in-Ask.is c.args.plant.now c.apply-2.new.self c.in_ok-apply-2.field-0 c.requires.first
    (ticked.room.0 refl, ticked.entered, ticked.ticket, ticked.lives) c.in-None.ensures c.apply-in-None.new.self c.in_ok-apply-in-None.field-0 (plain.room.0 refl, plain.entered, plain.ticket, plain.lives)
