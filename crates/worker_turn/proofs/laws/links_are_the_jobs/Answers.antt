use Rattle.worker_turn.proofs.Dialing.{ends_all}
use Rattle.worker_turn.proofs.Reading.{sent_all}
use Rattle.worker_turn.proofs.laws.links_are_the_jobs.Goals as goal

pub returns : goal.returns
returns c = record {
  dialed = λ job first later old new before done told. ends_all job first later old new done before told;
  sent = sent_all;
}
