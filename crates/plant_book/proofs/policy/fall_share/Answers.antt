use Rattle.plant_book.proofs.Claims.{fall_claims-feasible}
use Rattle.plant_book.specs.Part.{book_behind}
use Rattle.plant_book.proofs.policy.fall_share.Goals as goal

pub level-level-requires : goal.level-level-requires
level-level-requires c =
    let behind = c.requires.book.behind in
    rw (c.cap_plain.ensures.cap c.requires.book.before behind, c.as_slice.ensures.value, c.fall_claims.ensures) (fall_claims-feasible (book_behind c.requires.book.before c.args.book.now) behind.book)
