use Rattle.std.proofs.Common.{◌≡◌, Some, max, take, map}
use Rattle.std.specs.Prelude.{fold}
use Rattle.limiter_num.specs.Rating.{mw}
use Rattle.plant_book.specs.Writes.{frees}
use Rattle.uncertain_writes.specs.Live.{without}
use Rattle.uncertain_writes.proofs.live.greatest_left.Given as goal

abbrev pub invariant-loop-kept : goal.invariant-loop-kept
invariant-loop-kept l = mw l.rating l.most ≡ fold max 0 (map (λ write. mw l.rating write.raw) (without (frees l.rules (Some l.read) l.raw) (take l.kept-index l.writes)))
