use Rattle.model_discovery.specs.WalkState.{registers}
use Rattle.model_discovery.proofs.Steps.{after_on, outcome_at}
use Rattle.model_discovery.proofs.walk.Walk.took.Goals as goal

pub returns-clause-on_map : goal.returns-clause-on_map
returns-clause-on_map c = λ map on answers.
    rw c.tell_registers.ensures (after_on map c.args.self.now.place c.args.self.now.models (registers c.args.regs.now) on answers)

pub returns-clause-outcome : goal.returns-clause-outcome
returns-clause-outcome c = λ map on answers.
    outcome_at map c.tell_registers.new.self c.outcome.result (returns-clause-on_map c map on answers) c.outcome.ensures
