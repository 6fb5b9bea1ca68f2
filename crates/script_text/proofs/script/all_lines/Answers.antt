use Rattle.std.proofs.Common.{◌≡◌, ◌∷◌, [], ◌++◌, rules}
use Rattle.std.proofs.lemmas.Result.{err_from_is_err_and}
use Rattle.script_text.specs.Reader.{with_lines}
use Rattle.script_text.proofs.Reader.{none_bad, one_behind}
use Rattle.script_text.proofs.Taken.{bad_explains}
use Rattle.script_text.proofs.script.all_lines.Goals as goal

pub returns-in_err-line : goal.returns-in_err-line
returns-in_err-line c =
    let p = err_from_is_err_and c.from_residual.result c.from_residual.ensures.1 in
    rw (p.1, p.2) (λ bytes script has. bad_explains _ bytes (c.in_err-line.ensures bytes (with_lines script c.loop-taken.taken.items) (c.loop-taken.invariant.read bytes script has)))

pub loop-taken-preserved : goal.loop-taken-preserved
loop-taken-preserved c =
    let one = rw c.in-Some.is at c.in_ok-line.ensures in
    let items : c.push.new.self.items ≡ c.loop-taken.taken.items ++ c.in-Some.line ∷ [] = search rules in
    record {
      can_go_on = one.can_go_on;
      read = λ bytes script has. rw items (one_behind bytes script c.loop-taken.taken.items c.in-Some.line c.loop-taken.lines c.next_line.new.self one (c.loop-taken.invariant.read bytes script has));
    }

pub returns-in_err-judge_rest : goal.returns-in_err-judge_rest
returns-in_err-judge_rest c =
    let one = rw c.in-Some.is at c.in_ok-line.ensures in
    let p = err_from_is_err_and c.from_residual-in_err-judge_rest.result c.from_residual-in_err-judge_rest.ensures.1 in
    rw (p.1, p.2) (λ bytes script has. bad_explains _ bytes (c.in_err-judge_rest.ensures bytes _ (one_behind bytes script c.loop-taken.taken.items c.in-Some.line c.loop-taken.lines c.next_line.new.self one (c.loop-taken.invariant.read bytes script has))))

pub returns-then-is_err : goal.returns-then-is_err
returns-then-is_err c =
    let one = rw c.in-Some.is at c.in_ok-line.ensures in
    λ bytes script has. none_bad bytes _ c.next_line.new.self c.in_ok-judge_rest.ensures (one_behind bytes script c.loop-taken.taken.items c.in-Some.line c.loop-taken.lines c.next_line.new.self one (c.loop-taken.invariant.read bytes script has))
