use Rattle.std.specs.Fmt.{decimal}
use Rattle.script_text.specs.Lines.{tail_of}
use Rattle.script_text.proofs.Written.{two_put}
use Rattle.script_text.proofs.pen.Pen.two.Goals as goal

pub returns-clause-line : goal.returns-clause-line
returns-clause-line c =
    two_put c.args.word.now (decimal c.args.a) (decimal c.args.b) (tail_of c.args.self.now) (tail_of c.next.new.self) (tail_of c.next-2.new.self) (tail_of c.text.new.self)
    c.next.ensures.line c.next-2.ensures.line c.text.ensures.line
