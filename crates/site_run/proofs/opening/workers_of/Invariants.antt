use Rattle.std.proofs.Common.{◌≡◌, ◌++◌, length}
use Rattle.site_run.specs.Run.{AreSeated}
use Rattle.site_run.proofs.opening.workers_of.Given as goal

-- a worker for each port so far
abbrev pub invariant-loop-port : goal.invariant-loop-port
invariant-loop-port l =
    (goal.iterator-loop-port).can_next l.port-iterator ×
    (goal.iterator-loop-port).is_finite l.port-iterator ×
    (l.fn.ports.items ≡ l.yielded ++ l.port-iterator.rest.items) ×
    (length l.yielded ≡ length l.workers.items) ×
    AreSeated (record { site = l.site; ports = l.fn.ports.items; renew = l.pace.renew; pause = l.pace.pause; wait = l.pace.wait }) l.turns (length l.workers.items) l.workers.items
