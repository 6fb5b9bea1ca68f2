use Rattle.script_text.specs.Lines.{tail_of}
use Rattle.script_text.proofs.Written.{none_put}
use Rattle.script_text.proofs.pen.Pen.none.Goals as goal

pub returns-clause-line : goal.returns-clause-line
returns-clause-line c = none_put c.args.word.now (tail_of c.args.self.now) (tail_of c.text.new.self) c.text.ensures.line
