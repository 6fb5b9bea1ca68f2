use Rattle.std.proofs.Common.{sym, subst, arith}
use Rattle.plant_ledger.specs.Account.{Account, AreFrom}
use Rattle.plant_ledger.proofs.Running.{same_account_at}
use Rattle.plant_ledger.proofs.account.Account.expire.Goals as goal

pub returns-then-now-saturating_add : goal.returns-then-now-saturating_add
returns-then-now-saturating_add c =
    let oldest = c.self.inside.oldest in
    sym (same_account_at c.args.rules.now c.args.now oldest c.args.self.now (omega (arith, c.if-now-saturating_add.true, c.saturating_add.ensures, c.requires))
    (subst (λ (a : Account). AreFrom oldest a.live) c.self.view_is c.self.invariant.oldest))
