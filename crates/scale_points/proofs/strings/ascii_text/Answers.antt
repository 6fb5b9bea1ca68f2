-- What is ASCII is text, so `from_utf8` doesn't refuse it.
use Rattle.std.proofs.lemmas.Str.{IsUtf8-from_ascii}
use Rattle.scale_points.proofs.strings.ascii_text.Goals as goal

pub returns-in-Err : goal.returns-in-Err
returns-in-Err c = λ ascii. c.in-Err.ensures.cases.0 (IsUtf8-from_ascii _ ascii)
