use Rattle.one_life_script.proofs.Calls.{script_calls}
use Rattle.one_life_script.proofs.laws.lines_are_calls.Goals as goal

pub returns : goal.returns
returns c = script_calls
