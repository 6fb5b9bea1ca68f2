use Rattle.std.proofs.Common.{◌≡◌, Bool, true, ap, ◌∙◌, rules}
use Rattle.site_run.specs.declared.report.Finish.{Finish}
use Rattle.site_run.specs.Report.{finish_of, wrote_whole}
use Rattle.stream_io.specs.Streams.{change}
use Rattle.run_command.specs.Run.{end_of}
use Rattle.run_command.proofs.Runs.{told}
use Rattle.run_command.proofs.command.tell.Goals as goal

pub returns-clause-told : goal.returns-clause-told
returns-clause-told g c =
    let ran = c.args.ran.now in
    let whole : wrote_whole ran.console ≡ true = search rules in
    told ran.plant ran.workers.items ran.console (change g.O.Sink.taken g.O.Sink.faults c.args.out.now c.write_whole.new.sink) c.in-Ok.text.items c.write_whole.result c.end-2.result
    whole c.in-Ok.ensures c.write_whole.ensures.cause
    (rw c.deref.ensures.value at c.write_whole.ensures.all) (rw c.deref.ensures.value at c.write_whole.ensures.front)
    (c.end-2.ensures ∙ ap (λ (finish : Finish). end_of finish c.is_ok-written.result) c.finish_of-finish.ensures
    ∙ ap (λ (written : Bool). end_of (finish_of ran.plant ran.workers.items ran.console) written) c.is_ok-written.ensures.value)
