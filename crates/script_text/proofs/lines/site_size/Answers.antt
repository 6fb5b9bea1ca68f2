use Rattle.std.proofs.lemmas.Result.{err_from_is_err_and}
use Rattle.script_text.specs.Progress.{IsBadLine}
use Rattle.script_text.proofs.Steps.{begins}
use Rattle.script_text.proofs.Taken.{units_explain}
use Rattle.script_text.proofs.Reader.{head_counted, has_size}
use Rattle.std.proofs.Common.{refl}
use Rattle.script_text.proofs.lines.site_size.Goals as goal

pub returns-in_err-line : goal.returns-in_err-line
returns-in_err-line c =
    let p = err_from_is_err_and c.from_residual.result c.from_residual.ensures.1 in
    rw (p.1, p.2) (c.in_err-line.ensures (begins c.args.bytes.now))

pub returns-in_err-size : goal.returns-in_err-size
returns-in_err-size c =
    let p = err_from_is_err_and c.from_residual-in_err-size.result c.from_residual-in_err-size.ensures.1 in
    rw (p.1, p.2) (units_explain IsBadLine c.args.bytes c.in_ok-line.rows c.in_ok-line.line _ c.in_ok-line.ensures c.in_err-size.ensures)

pub returns-in_err-judge_rest : goal.returns-in_err-judge_rest
returns-in_err-judge_rest c =
    let p = err_from_is_err_and c.from_residual-in_err-judge_rest.result c.from_residual-in_err-judge_rest.ensures.1 in
    rw (p.1, p.2) (c.in_err-judge_rest.ensures _ _ (head_counted c.args.bytes c.in_ok-line.rows c.in_ok-size.rows c.in_ok-line.line c.in_ok-size.size c.in_ok-size.latest c.in_ok-line.ensures c.in_ok-size.ensures.0))

pub returns : goal.returns
returns c =
    has_size c.args.bytes c.in_ok-line.rows c.in_ok-size.rows c.in_ok-line.line c.in_ok-size.size c.in_ok-size.latest _ c.in_ok-line.ensures c.in_ok-size.ensures.0 c.in_ok-size.ensures.1 refl c.in_ok-judge_rest.ensures
