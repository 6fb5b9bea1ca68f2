use Rattle.std.proofs.Common.{ℕ, List, sym, subst}
use Rattle.std.proofs.lemmas.Result.{err_from_is_err_and}
use Rattle.script_text.specs.Reader.{script_begun}
use Rattle.script_replay.specs.Replay.{IsReplay}
use Rattle.script_replay.specs.Playing.{IsReplayed, bytes_of}
use Rattle.script_replay.proofs.Plays.{starts, begun, whole_replay, refuses_rest}
use Rattle.script_replay.proofs.replay.replay_script.Goals as goal

pub first_life-requires : goal.first_life-requires
first_life-requires c = starts c.args.bytes.now (script_begun c.in_ok-site.field-0) c.in_ok-site.field-0.lines c.in_ok-site.ensures

pub play-requires-clause-begun : goal.play-requires-clause-begun
play-requires-clause-begun c =
    subst (λ (b : List ℕ). IsReplayed b c.in-Ok.plant c.in_ok-site.field-0.lines c.in-Ok.plant c.in-Ok.text.items) (sym c.in_ok-site.ensures.whole)
    (begun c.args.bytes.now c.in_ok-site.field-0.site c.in_ok-site.field-0.start c.in_ok-site.field-0.lines c.in-Ok.plant c.in-Ok.text.items c.in_ok-site.ensures c.in-Ok.ensures.opened c.in-Ok.ensures.text)

pub returns-in_ok-full-in-Ok-clause-text : goal.returns-in_ok-full-in-Ok-clause-text
returns-in_ok-full-in-Ok-clause-text c =
    subst (λ (b : List ℕ). IsReplay b c.in_ok-full-in-Ok.full c.play.new.text.items) c.in_ok-site.ensures.whole
    (whole_replay (bytes_of c.in_ok-site.field-0.lines) (script_begun c.in_ok-site.field-0) c.in-Ok.plant c.play.new.plant c.play.new.text.items c.in_ok-full-in-Ok.full c.in-Ok.ensures.opened c.in_ok-full-in-Ok.ensures)

pub returns-in_err-judge_rest-in-Err-clause-fault : goal.returns-in_err-judge_rest-in-Err-clause-fault
returns-in_err-judge_rest-in-Err-clause-fault c =
    let p = err_from_is_err_and c.from_residual-in_err-judge_rest-in-Err.result c.from_residual-in_err-judge_rest-in-Err.ensures.1 in
    rw (p.1, p.2) (c.in_err-judge_rest-in-Err.ensures c.args.bytes.now _ c.in_ok-site.ensures)

pub returns-in_ok-judge_rest-in-Err-clause-fault : goal.returns-in_ok-judge_rest-in-Err-clause-fault
returns-in_ok-judge_rest-in-Err-clause-fault c =
    refuses_rest c.args.bytes.now (script_begun c.in_ok-site.field-0) c.in_ok-site.field-0.lines c.in-Err.fault c.in_ok-site.ensures c.in_ok-judge_rest-in-Err.ensures c.in-Err.ensures.fault
