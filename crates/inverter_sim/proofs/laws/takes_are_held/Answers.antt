use Rattle.std.proofs.Common.{◌≡◌, ◌+◌, true, false, leb, arith, ap}
use Rattle.std.proofs.lemmas.Bool.Decides.{nat_tests}
use Rattle.inverter_sim.specs.Bank.{BankRecord}
use Rattle.inverter_sim.proofs.Holding.{held_since, nothing_else}
use Rattle.inverter_sim.proofs.laws.takes_are_held.Goals as goal

pub returns-clause-held : goal.returns-clause-held
returns-clause-held c = λ bank calls at raw now took by early.
    let due : leb (at + bank.after) now ≡ false = grind (arith, nat_tests) in
    rw due at (held_since bank calls at raw now took by)

pub returns-clause-reverted : goal.returns-clause-reverted
returns-clause-reverted c = λ bank calls at raw now took by late.
    let due : leb (at + bank.after) now ≡ true = grind (arith, nat_tests) in
    rw due at (held_since bank calls at raw now took by)

pub returns-clause-nothing_else : goal.returns-clause-nothing_else
returns-clause-nothing_else c = λ bank calls now none by. ap (λ (b : BankRecord). b.raw) (nothing_else bank calls now none by)
