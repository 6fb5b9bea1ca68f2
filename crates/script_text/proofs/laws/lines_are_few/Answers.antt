use Rattle.script_text.proofs.Count.{lines_within}
use Rattle.script_text.proofs.laws.lines_are_few.Goals as goal

pub returns : goal.returns
returns c = lines_within
