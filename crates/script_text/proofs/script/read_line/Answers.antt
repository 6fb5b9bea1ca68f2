use Rattle.script_text.proofs.Taken.{line_taken}
use Rattle.script_text.proofs.script.read_line.Goals as goal

pub returns-in-Bad : goal.returns-in-Bad
returns-in-Bad c = rw c.bad_form.ensures (λ before at _. c.in-Bad.ensures.next before at)

pub returns-in-Ok : goal.returns-in-Ok
returns-in-Ok c = line_taken c.args.rows c.in-Said.behind c.in-Said.numbers c.args.inverters c.args.latest c.in-Ok.line c.in-Said.ensures.next c.in-Said.ensures.few c.in-Ok.ensures
