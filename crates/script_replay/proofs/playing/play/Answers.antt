use Rattle.std.proofs.lemmas.Result.{err_from_is_err_and}
use Rattle.script_replay.specs.Playing.{bytes_of}
use Rattle.script_replay.proofs.Plays.{next_fits, line_done, found_full, not_further, not_past, none_bad}
use Rattle.script_replay.proofs.playing.play.Goals as goal

pub returns-in_err-line : goal.returns-in_err-line
returns-in_err-line c =
    let p = err_from_is_err_and c.from_residual.result c.from_residual.ensures.1 in
    rw (p.1, p.2) (not_further (bytes_of c.args.lines.now) c.args.plant.now c.loop-line.plant c.loop-line.lines c.loop-line.text.items _ c.in_err-line.ensures c.loop-line.invariant)

pub step-requires : goal.step-requires
step-requires c =
    let one = rw c.in-Some.is at c.in_ok-line.ensures in
    next_fits (bytes_of c.args.lines.now) c.args.plant.now c.loop-line.plant c.loop-line.lines c.next.new.lines c.loop-line.text.items c.in-Some.line c.requires.few one c.loop-line.invariant

pub loop-line-preserved : goal.loop-line-preserved
loop-line-preserved c =
    let one = rw c.in-Some.is at c.in_ok-line.ensures in
    let does = rw c.in-Ok-None.field-0-is at c.in-Ok-None.ensures in
    line_done (bytes_of c.args.lines.now) c.args.plant.now c.loop-line.plant c.step.new.plant c.loop-line.lines c.next.new.lines c.loop-line.text.items c.step.new.text.items c.in-Some.line one c.loop-line.invariant does

pub returns-in_err-judge_rest-in-Ok-Some : goal.returns-in_err-judge_rest-in-Ok-Some
returns-in_err-judge_rest-in-Ok-Some c =
    let one = rw c.in-Some.is at c.in_ok-line.ensures in
    let p = err_from_is_err_and c.from_residual-in_err-judge_rest-in-Ok-Some.result c.from_residual-in_err-judge_rest-in-Ok-Some.ensures.1 in
    rw (p.1, p.2) (not_past (bytes_of c.args.lines.now) c.args.plant.now c.loop-line.plant c.loop-line.lines c.next.new.lines c.loop-line.text.items c.in-Some.line _ one c.in_err-judge_rest-in-Ok-Some.ensures c.loop-line.invariant)

pub returns-in-Ok-Some : goal.returns-in-Ok-Some
returns-in-Ok-Some c =
    let one = rw c.in-Some.is at c.in_ok-line.ensures in
    let full = rw c.in-Ok-Some.field-0-is at c.in-Ok-Some.ensures in
    found_full (bytes_of c.args.lines.now) c.args.plant.now c.loop-line.plant c.step.new.plant c.loop-line.lines c.next.new.lines c.loop-line.text.items c.step.new.text.items c.in-Some.line c.in-Ok-Some.calls one
    c.loop-line.invariant full c.in_ok-judge_rest-in-Ok-Some.ensures

pub returns-in_err-judge_rest-in-Err : goal.returns-in_err-judge_rest-in-Err
returns-in_err-judge_rest-in-Err c =
    let one = rw c.in-Some.is at c.in_ok-line.ensures in
    let p = err_from_is_err_and c.from_residual-in_err-judge_rest-in-Err.result c.from_residual-in_err-judge_rest-in-Err.ensures.1 in
    rw (p.1, p.2) (not_past (bytes_of c.args.lines.now) c.args.plant.now c.loop-line.plant c.loop-line.lines c.next.new.lines c.loop-line.text.items c.in-Some.line _ one c.in_err-judge_rest-in-Err.ensures c.loop-line.invariant)

pub returns-in-Err : goal.returns-in-Err
returns-in-Err c =
    let one = rw c.in-Some.is at c.in_ok-line.ensures in
    none_bad (bytes_of c.args.lines.now) c.args.plant.now c.loop-line.plant c.loop-line.lines c.next.new.lines c.loop-line.text.items c.in-Some.line one c.in_ok-judge_rest-in-Err.ensures c.loop-line.invariant
