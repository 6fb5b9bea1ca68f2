use Rattle.std.proofs.lemmas.List.Concat.{flat_map-append}
use Rattle.inverter_worker.specs.Runs.{calls_of, sends_of}
use Rattle.inverter_worker.proofs.Runs.{LeadsTo-append, LeadsTo-push, sent_in_time}
use Rattle.inverter_worker.proofs.laws.runs_go_on.Goals as goal

pub returns : goal.returns
returns c = record {
  more = LeadsTo-push;
  joined = LeadsTo-append;
  calls = flat_map-append (λ one. calls_of one.output);
  log = flat_map-append (λ one. sends_of one.output);
  in_time = sent_in_time;
}
