use Rattle.std.proofs.lemmas.Result.{err_from_is_err_and}
use Rattle.script_text.proofs.Reader.{line_read, no_line, no_more}
use Rattle.script_text.proofs.lines.Lines.next_line.Goals as goal

pub returns-in_err-read_line : goal.returns-in_err-read_line
returns-in_err-read_line c =
    let p = err_from_is_err_and c.from_residual.result c.from_residual.ensures.1 in
    rw (p.1, p.2) (no_more c.args.self.now _ c.in_err-read_line.ensures)

pub returns-in-None : goal.returns-in-None
returns-in-None c =
    let none = rw c.in-None.is at c.in_ok-read_line.ensures in
    no_line c.args.self.now none

pub returns-in-Some : goal.returns-in-Some
returns-in-Some c =
    let one = rw c.in-Some.is at c.in_ok-read_line.ensures in
    line_read c.args.self.now c.in-Some.line c.in-Some.rows c.moment_after-self.result one c.moment_after-self.ensures
