use Rattle.std.proofs.Common.{sym}
use Rattle.plant_ledger.proofs.Probes.{reached_below, unreached_above}
use Rattle.plant_ledger.proofs.known.Probe.tells.Goals as goal

pub returns-then-mw-self : goal.returns-then-mw-self
returns-then-mw-self c = λ claims feasible is. sym (reached_below c.args.cap c.args.mw claims c.args.self feasible is c.requires c.if-self-cap.true c.if-mw-self.true)

pub returns-then-self-mw : goal.returns-then-self-mw
returns-then-self-mw c = λ claims feasible is. sym (unreached_above c.args.cap c.args.mw claims c.args.self feasible is c.requires c.if-self-cap.false c.if-self-mw.true)
