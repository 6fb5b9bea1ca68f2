use Rattle.std.proofs.Common.{◌≡◌}
use Rattle.running_tests.proofs.shared_desk.threads.ticks.Given as goal

abbrev pub invariant-loop-made : goal.invariant-loop-made
invariant-loop-made g l = l.pass.desk ≡ l.desk
