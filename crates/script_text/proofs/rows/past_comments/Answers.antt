use Rattle.std.proofs.Common.{length, arith, ap}
use Rattle.script_text.proofs.Steps.{comment_on}
use Rattle.script_text.proofs.Taken.{behind_short, comment_some}
use Rattle.script_text.proofs.rows.past_comments.Goals as goal

pub loop-rest-smaller : goal.loop-rest-smaller
loop-rest-smaller c =
    let some = comment_some c.loop-rest.rest.now (c.is_comment.ensures.0 c.loop-rest-test.true) in
    omega (arith, behind_short c.loop-rest.rest.now some, ap length c.behind_row-rest.ensures)

pub loop-rest-preserved : goal.loop-rest-preserved
loop-rest-preserved c =
    let is = c.is_comment.ensures.0 c.loop-rest-test.true in
    let some = comment_some c.loop-rest.rest.now is in
    let shorter = behind_short c.loop-rest.rest.now some in
    record {
      few = omega (arith, shorter, ap length c.behind_row-rest.ensures, c.loop-rest.invariant.few);
      shorter = omega (arith, shorter, ap length c.behind_row-rest.ensures, c.loop-rest.invariant.shorter);
      number = omega (arith, c.loop-rest.invariant.number);
      goes_on = λ before at.
          rw c.behind_row-rest.ensures (comment_on c.args.rows.whole.now c.loop-rest.rest.now before c.loop-rest.number (c.loop-rest.invariant.goes_on before at) some is);
    }
