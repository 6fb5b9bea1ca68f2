use Rattle.std.proofs.Common.{Option, Some, None, arith}
use Rattle.std.specs.Option.{IsSome, OnSome}
use Rattle.revert_timers.specs.Expiries.{has_numbers}
use Rattle.revert_timers.proofs.Lists.{found, found_within, without_found, not_found}
use Rattle.revert_timers.proofs.expiries.Expiries.remove.Goals as goal

on_some : {A P : Type 0} (taken : Option A) → IsSome taken → OnSome taken P → P
on_some (Some x) is h = h
on_some None is h = absurd cc

pub returns-in-Some-clause-held : goal.returns-in-Some-clause-held
returns-in-Some-clause-held c =
    rw (← c.self.view_is)
    (found (has_numbers c.args.inverter c.args.link c.args.number) c.self.inside.entries.items c.in-Some.place c.in-Some.ensures)

pub returns-in-Some-clause-left : goal.returns-in-Some-clause-left
returns-in-Some-clause-left c =
    let test = has_numbers c.args.inverter c.args.link c.args.number in
    let within = found_within test c.self.inside.entries.items c.in-Some.place c.in-Some.ensures in
    let taken = c.remove-taken.ensures.variant.1 (omega (arith, within, c.self.inside.entries.ok.0)) in
    rw (← c.self.view_is)
    (without_found test c.self.inside.entries.items _ c.in-Some.place c.in-Some.ensures
    (on_some c.remove-taken.result taken c.remove-taken.ensures.items))

pub returns-in-None-clause-held : goal.returns-in-None-clause-held
returns-in-None-clause-held c =
    rw (← c.self.view_is)
    (not_found (has_numbers c.args.inverter c.args.link c.args.number) c.self.inside.entries.items c.in-None.ensures)
