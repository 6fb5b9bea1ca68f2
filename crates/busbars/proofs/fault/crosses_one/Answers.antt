use Rattle.std.proofs.Common.{rules, tests}
use Rattle.std.proofs.lemmas.Iterator.{cases_from_any, YieldsList-from_slice}
use Rattle.busbars.specs.Buses.{Crosses}
use Rattle.busbars.proofs.Nesting.{crosses_any}
use Rattle.busbars.proofs.fault.crosses_one.Goals as goal

pub returns : goal.returns
returns c =
    let its = c.args.bus.now in
    crosses_any its c.args.earlier.now c.any.result
    (cases_from_any _ _ _ (λ other. Crosses its other) (λ other. Crosses its other → ⊥) c.any.ensures.ran (YieldsList-from_slice c.args.earlier.now cc) (λ x q k. search (rules, tests)) (λ x q k. search (rules, tests)))
