use Rattle.std.proofs.Common.{◌≡◌, length, ◌++◌, refl, ap, ◌∙◌}
use Rattle.plant_book.specs.Reserved.{now_of}
use Rattle.plant_book.specs.Part.{PartRecord, calls_of, book_behind}
use Rattle.plant_book.proofs.Behind.{last_moment_of-is, calls_of-is}
use Rattle.plant_ledger.proofs.rolling.carry_of.Goals as goal

pub returns : goal.returns
returns c before is =
    let part = c.args.ledger.now.book in
    let last : c.now.result ≡ now_of (book_behind before part) = c.now.ensures.now ∙ c.requires.last ∙ last_moment_of-is part before is in
    let calls : c.life_calls.result ≡ length (before ++ part.entries) = c.life_calls.ensures ∙ ap (λ (p : PartRecord). calls_of p) c.book.ensures.book ∙ calls_of-is part before is in
    rw (last, calls, c.cap.ensures.cap before is, c.mark.ensures before is, c.is_stopped.ensures before is, c.in_ok-units.ensures before is) refl
