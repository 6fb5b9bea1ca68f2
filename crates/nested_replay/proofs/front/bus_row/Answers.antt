use Rattle.std.proofs.Common.{inr, rules}
use Rattle.nested_replay.proofs.Rows.{wrong_bus}
use Rattle.nested_replay.proofs.front.bus_row.Goals as goal

pub returns-in-None : goal.returns-in-None
returns-in-None c = λ before count begins. (begins, inr (λ bus. c.in-None.ensures bus.cap bus.lo bus.hi))

pub returns-in-None-bus_of : goal.returns-in-None-bus_of
returns-in-None-bus_of c = λ before count begins. wrong_bus before c.args.before c.args.bytes.now c.in-Some.cap c.in-Some.lo c.in-Some.hi c.in-Some.field-0-1.now count (search rules) c.in-Some.ensures c.in-None-bus_of.ensures
