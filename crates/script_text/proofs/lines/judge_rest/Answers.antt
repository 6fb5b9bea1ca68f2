use Rattle.std.proofs.Common.{[], ◌∷◌, ◌++◌, rules}
use Rattle.std.proofs.lemmas.Result.{err_from_is_err_and}
use Rattle.script_text.specs.Reader.{with_lines}
use Rattle.script_text.proofs.Reader.{none_more, one_behind, some_line, no_line_left}
use Rattle.script_text.proofs.lines.judge_rest.Goals as goal

pub loop-init : goal.loop-init
loop-init c = record { can_go_on = c.requires; read = λ bytes script has. ([], none_more bytes script c.args.lines.now has) }

pub returns-in_err-next_line : goal.returns-in_err-next_line
returns-in_err-next_line c =
    let p = err_from_is_err_and c.from_residual.result c.from_residual.ensures.1 in
    rw (p.1, p.2) (λ bytes script has. let m = c.loop.invariant.read bytes script has in c.in_err-next_line.ensures bytes (with_lines script m.0) m.1)

pub loop-preserved : goal.loop-preserved
loop-preserved c =
    let one = some_line c.in_ok-next_line.field-0 c.loop.lines c.next_line.new.self (search rules) c.in_ok-next_line.ensures in
    record {
      can_go_on = one.1.can_go_on;
      read = λ bytes script has. let m = c.loop.invariant.read bytes script has in (m.0 ++ one.0 ∷ [], one_behind bytes script m.0 one.0 c.loop.lines c.next_line.new.self one.1 m.1);
    }

pub returns : goal.returns
returns c = λ bytes script has.
    let m = c.loop.invariant.read bytes script has in
    (m.0, no_line_left c.in_ok-next_line.field-0 c.loop.lines c.next_line.new.self (search rules) c.in_ok-next_line.ensures bytes (with_lines script m.0) m.1)
