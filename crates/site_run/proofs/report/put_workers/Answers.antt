use Rattle.std.proofs.Common.{◌≡◌, ℕ, List, length, ◌++◌, sym, ap, ◌∙◌, append_assoc, arith}
use Rattle.site_run.specs.Report.{worker_line}
use Rattle.site_run.proofs.Lines.{lines_below, lines_below-more, lines_below-all}
use Rattle.site_run.proofs.report.put_workers.Goals as goal

pub loop-number-preserved : goal.loop-number-preserved
loop-number-preserved c =
    let item = c.index-workers-number in
    let front = c.args.text.now.items in
    let done = lines_below c.loop-number.number c.args.workers.now in
    let line = worker_line c.loop-number.number item.result.state.step in
    c.in_ok-put_worker.ensures
    ∙ ap (λ (text : List ℕ). text ++ line) c.loop-number.invariant
    ∙ append_assoc front done line
    ∙ ap (λ (lines : List ℕ). front ++ lines) (sym (lines_below-more c.args.workers.now c.loop-number.number item.result c.loop-number-test.true item.is))

pub returns : goal.returns
returns c =
    let all : c.loop-number.number ≡ length c.args.workers.now = omega (arith, c.loop-number.auto.number-end) in
    c.loop-number.invariant ∙ ap (λ (lines : List ℕ). c.args.text.now.items ++ lines) (lines_below-all c.args.workers.now c.loop-number.number all)
