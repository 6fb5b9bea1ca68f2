use Rattle.std.proofs.Common.{◌≡◌, leb, true, false, arith}
use Rattle.std.proofs.lemmas.Bool.{le-leb, lt-leb}
use Rattle.plant_book.specs.Answer.{silent_until}
use Rattle.plant_book.specs.Reserved.{now_of}
use Rattle.plant_book.specs.Ceiling as ceilings
use Rattle.plant_book.specs.Part.{book_behind}
use Rattle.plant_book.proofs.Behind.{last_moment_of-is}
use Rattle.plant_ledger.proofs.ledger.Ledger.ceiling.Goals as goal

pub returns-then-now-silent_until : goal.returns-then-now-silent_until
unfolding ceilings.ceiling
returns-then-now-silent_until c before is =
    let part = c.args.self.now.book in
    let whole = book_behind before part in
    let silent : leb (now_of whole) (silent_until whole) ≡ true =
    le-leb (now_of whole) (silent_until whole) (omega (arith, last_moment_of-is part before is, c.now.ensures.now, c.requires.last, c.silent_until.ensures before is, c.if-now-silent_until.true)) in
    rw silent c.site_cap.ensures

pub returns : goal.returns
unfolding ceilings.ceiling
returns c before is =
    let part = c.args.self.now.book in
    let whole = book_behind before part in
    let loud : leb (now_of whole) (silent_until whole) ≡ false =
    lt-leb (now_of whole) (silent_until whole) (omega (arith, last_moment_of-is part before is, c.now.ensures.now, c.requires.last, c.silent_until.ensures before is, c.if-now-silent_until.false)) in
    rw loud (c.ceiling_since.ensures before is (c.mark.ensures before is))
