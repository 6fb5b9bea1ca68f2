use Rattle.std.specs.Fmt.{decimal}
use Rattle.script_text.specs.Lines.{tail_of}
use Rattle.script_text.proofs.Written.{four_put}
use Rattle.script_text.proofs.pen.Pen.four.Goals as goal

pub returns-clause-line : goal.returns-clause-line
returns-clause-line c =
    four_put c.args.word.now (decimal c.args.a) (decimal c.args.b) (decimal c.args.c) (decimal c.args.d) (tail_of c.args.self.now) (tail_of c.next.new.self) (tail_of c.next-2.new.self) (tail_of c.next-3.new.self) (tail_of c.next-4.new.self) (tail_of c.text.new.self)
    c.next.ensures.line c.next-2.ensures.line c.next-3.ensures.line c.next-4.ensures.line c.text.ensures.line
