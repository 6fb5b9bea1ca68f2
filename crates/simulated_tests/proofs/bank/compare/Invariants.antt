use Rattle.std.proofs.Common.{◌≡◌}
use Rattle.simulated_tests.proofs.bank.compare.Given as goal

-- the moment of the last call
abbrev pub invariant-loop-now : goal.invariant-loop-now
invariant-loop-now g l = l.bank.last ≡ l.last
