use Rattle.std.proofs.lemmas.Result.{err_from_is_err_and}
use Rattle.model_discovery.specs.Map.{Exception}
use Rattle.model_discovery.specs.WalkState.{registers}
use Rattle.model_discovery.proofs.Steps.{answered}
use Rattle.model_discovery.proofs.whole_walk.discover.Goals as goal

pub returns-in_err-took-in-Ok-clause-fault : goal.returns-in_err-took-in-Ok-clause-fault
returns-in_err-took-in-Ok-clause-fault g c =
    let map = g.M.RegisterMap.answers c.args.map.now in
    let given = answered map c.loop-start.walk.place (registers c.in-Ok.regs) c.in-Read.start c.in-Read.count c.in-Read.ensures.next c.in-Ok.ensures in
    let p = err_from_is_err_and c.from_residual.result c.from_residual.ensures.1 in
    rw (p.1, p.2) (c.in_err-took-in-Ok.ensures.outcome map c.loop-start.invariant.0 given)

pub returns-in_err-refused-in-Err-clause-fault : goal.returns-in_err-refused-in-Err-clause-fault
returns-in_err-refused-in-Err-clause-fault g c =
    let map = g.M.RegisterMap.answers c.args.map.now in
    let given = answered map c.loop-start.walk.place (Exception c.in-Err.code) c.in-Read.start c.in-Read.count c.in-Read.ensures.next c.in-Err.ensures in
    let p = err_from_is_err_and c.from_residual-in_err-refused-in-Err.result c.from_residual-in_err-refused-in-Err.ensures.1 in
    rw (p.1, p.2) (c.in_err-refused-in-Err.ensures.outcome map c.loop-start.invariant.0 given)
