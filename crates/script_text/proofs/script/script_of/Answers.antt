use Rattle.std.proofs.lemmas.Result.{err_from_is_err_and}
use Rattle.script_text.proofs.script.script_of.Goals as goal

pub returns-in_err-lines-clause-fault : goal.returns-in_err-lines-clause-fault
returns-in_err-lines-clause-fault c =
    let p = err_from_is_err_and c.from_residual-in_err-lines.result c.from_residual-in_err-lines.ensures.1 in
    rw (p.1, p.2) (c.in_err-lines.ensures _ _ c.in_ok-site.ensures)

pub returns-clause-script : goal.returns-clause-script
returns-clause-script c = c.in_ok-lines.ensures _ _ c.in_ok-site.ensures
