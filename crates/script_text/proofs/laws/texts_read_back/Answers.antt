use Rattle.script_text.proofs.Back.{reads_back}
use Rattle.script_text.proofs.laws.texts_read_back.Goals as goal

pub returns : goal.returns
returns c = reads_back
