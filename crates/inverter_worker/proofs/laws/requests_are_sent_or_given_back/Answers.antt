use Rattle.inverter_worker.specs.Runs.{first_state}
use Rattle.inverter_worker.proofs.Requests.{requests_kept}
use Rattle.inverter_worker.proofs.laws.requests_are_sent_or_given_back.Goals as goal

pub returns : goal.returns
returns c = record {
  kept = requests_kept;
  first = λ job turns last run leads. requests_kept job (first_state turns) last run leads;
}
