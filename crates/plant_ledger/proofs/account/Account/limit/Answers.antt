use Rattle.std.proofs.Common.{◌≡◌, ℕ, ◌*◌, Option, subst, ap, sym, ◌∙◌, arith}
use Rattle.std.specs.Prelude.{IfSome}
use Rattle.limiter_num.specs.Rating.{mw}
use Rattle.plant_ledger.specs.Account.{Account, IsStep}
use Rattle.plant_ledger.proofs.Steps.{mw_low}
use Rattle.plant_ledger.proofs.account.Account.limit.Goals as goal

module _ (c : goal.After-from) where
  is : c.from.result * c.in-Some.step ≡ mw c.self.inside.unit.rating c.args.raw
  is = ap (λ (k : ℕ). k * c.in-Some.step) c.from.ensures ∙ sym (subst (λ (s : Option ℕ). IfSome s (IsStep c.self.inside.unit.rating)) c.in-Some.is c.self.invariant.step c.args.raw)

pub overflow_mul-result : goal.overflow_mul-result
overflow_mul-result c = omega (arith, is c, mw_low c.self.inside.unit.rating c.args.raw (omega arith))

pub returns-in-Some-clause-watts : goal.returns-in-Some-clause-watts
returns-in-Some-clause-watts c = is c ∙ ap (λ (a : Account). mw a.unit.rating c.args.raw) c.self.view_is

pub returns-in-Some-clause-below : goal.returns-in-Some-clause-below
returns-in-Some-clause-below c = omega (arith, is c, mw_low c.self.inside.unit.rating c.args.raw (omega arith))
