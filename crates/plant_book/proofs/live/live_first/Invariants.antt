use Rattle.std.proofs.Common.{◌≡◌}
use Rattle.plant_book.specs.Part.{book_behind, part_first}
use Rattle.plant_book.specs.Carry.{live_writes, EachBefore}
use Rattle.plant_book.proofs.live.live_first.Given as goal

abbrev pub invariant-loop-place : goal.invariant-loop-place
invariant-loop-place l = EachBefore l.book (λ before. l.live.items ≡ live_writes (book_behind before (part_first l.book l.place)) l.inverter)
