use Rattle.std.proofs.Common.{◌≡◌, length}
use Rattle.host_adapters.proofs.tcp.TcpDialer.many.Given as goal

-- each turn made one
abbrev pub invariant-loop : goal.invariant-loop
invariant-loop g l = length l.dialers.items ≡ l.counter
