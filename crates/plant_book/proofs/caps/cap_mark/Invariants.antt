use Rattle.std.proofs.Common.{◌≡◌}
use Rattle.plant_book.specs.Part.{book_behind, part_first}
use Rattle.plant_book.specs.Carry.{mark_of, EachBefore}
use Rattle.plant_book.proofs.caps.cap_mark.Given as goal

abbrev pub invariant-loop-place : goal.invariant-loop-place
invariant-loop-place l = EachBefore l.book (λ before. l.mark ≡ mark_of (book_behind before (part_first l.book l.place)))
