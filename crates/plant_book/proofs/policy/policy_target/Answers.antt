use Rattle.plant_book.proofs.Claims.{claims-feasible}
use Rattle.plant_book.specs.Part.{book_behind}
use Rattle.plant_book.proofs.policy.policy_target.Goals as goal

pub level-level-requires : goal.level-level-requires
level-level-requires c =
    let before = c.requires.book.before in
    let behind = c.requires.book.behind in
    rw (c.cap_plain.ensures.cap before behind, c.as_slice.ensures.value, c.claims.ensures before behind) (claims-feasible (book_behind before c.args.book.now) behind.book)
