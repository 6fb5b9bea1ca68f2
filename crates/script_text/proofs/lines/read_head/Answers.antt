use Rattle.std.proofs.Common.{◌≡◌, length, rules}
use Rattle.std.proofs.lemmas.Result.{err_from_is_err_and}
use Rattle.script_text.specs.Progress.{Explains}
use Rattle.script_text.proofs.Steps.{begins}
use Rattle.script_text.proofs.Taken.{units_explain, bad_explains}
use Rattle.script_text.proofs.Reader.{head_read}
use Rattle.script_text.proofs.lines.read_head.Goals as goal

pub returns-in_err-line : goal.returns-in_err-line
returns-in_err-line c =
    let p = err_from_is_err_and c.from_residual.result c.from_residual.ensures.1 in
    rw (p.1, p.2) (bad_explains _ _ (c.in_err-line.ensures (begins c.args.bytes.now)))

pub returns-in_err-units : goal.returns-in_err-units
returns-in_err-units c =
    let p = err_from_is_err_and c.from_residual-in_err-units.result c.from_residual-in_err-units.ensures.1 in
    rw (p.1, p.2) (units_explain Explains c.args.bytes c.in_ok-line.rows c.in_ok-line.line _ c.in_ok-line.ensures c.in_err-units.ensures)

pub returns : goal.returns
returns c =
    let count : c.len.result ≡ length c.in_ok-units.units.items = search rules in
    head_read c.args.bytes c.in_ok-line.rows c.in_ok-units.rows c.in_ok-line.line c.in_ok-units.units.items c.in_ok-units.start c.len.result c.new.result c.in_ok-line.ensures c.in_ok-units.ensures count c.new.ensures
