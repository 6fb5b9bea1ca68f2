use Rattle.model_discovery.specs.Map.{Exception}
use Rattle.model_discovery.proofs.Steps.{after_on, outcome_at}
use Rattle.model_discovery.proofs.walk.Walk.refused.Goals as goal

pub returns-clause-on_map : goal.returns-clause-on_map
returns-clause-on_map c = λ map on answers.
    rw c.tell_exception.ensures (after_on map c.args.self.now.place c.args.self.now.models (Exception c.args.code) on answers)

pub returns-clause-outcome : goal.returns-clause-outcome
returns-clause-outcome c = λ map on answers.
    outcome_at map c.tell_exception.new.self c.outcome.result (returns-clause-on_map c map on answers) c.outcome.ensures
