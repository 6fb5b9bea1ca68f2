use Rattle.std.specs.Fmt.{decimal}
use Rattle.script_text.specs.Lines.{tail_of}
use Rattle.script_text.proofs.Written.{one_put}
use Rattle.script_text.proofs.pen.Pen.one.Goals as goal

pub returns-clause-line : goal.returns-clause-line
returns-clause-line c =
    one_put c.args.word.now (decimal c.args.a) (tail_of c.args.self.now) (tail_of c.next.new.self) (tail_of c.text.new.self)
    c.next.ensures.line c.text.ensures.line
