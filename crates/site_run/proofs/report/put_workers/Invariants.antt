use Rattle.std.proofs.Common.{◌≡◌, ◌++◌}
use Rattle.site_run.proofs.Lines.{lines_below}
use Rattle.site_run.proofs.report.put_workers.Given as goal

-- the lines of the first workers
abbrev pub invariant-loop-number : goal.invariant-loop-number
invariant-loop-number l = l.text.items ≡ l.initial.text.items ++ lines_below l.number l.workers
