use Rattle.script_text.proofs.Taken.{head_ends}
use Rattle.script_text.proofs.script.next_of_head.Goals as goal

pub returns-in-End : goal.returns-in-End
returns-in-End c = rw c.bad_form.ensures (λ before at none. head_ends c.args.rows before c.in-End.number (c.in-End.ensures.next before at) none)

pub returns-in-Bad : goal.returns-in-Bad
returns-in-Bad c = rw c.bad_form-in-Bad.ensures (λ before at _. c.in-Bad.ensures.next before at)
