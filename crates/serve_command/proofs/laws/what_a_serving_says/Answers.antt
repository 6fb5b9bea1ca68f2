use Rattle.serve_command.proofs.Serving as serving
use Rattle.serve_command.proofs.laws.what_a_serving_says.Goals as goal

pub returns : goal.returns
returns c = record {
  site = serving.causes;
  no_such_inverter = serving.no_such_inverter;
  only_lacking = serving.only_lacking;
  no_write_fault = serving.no_write_fault;
}
