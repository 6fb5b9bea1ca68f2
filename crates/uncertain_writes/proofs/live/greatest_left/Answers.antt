use Rattle.std.proofs.Common.{◌≡◌, ℕ, ◌+◌, ◌<◌, Some, max, length, take, map, sym, subst, ◌∙◌, arith}
use Rattle.std.specs.Prelude.{fold}
use Rattle.limiter_num.specs.Rating.{mw}
use Rattle.plant_book.specs.declared.call.Write as writes
use Rattle.plant_book.specs.Writes.{frees}
use Rattle.uncertain_writes.specs.Live.{without}
use Rattle.uncertain_writes.proofs.Lists.{greatest_left_more, greatest_left_same, mw-zero}
use Rattle.uncertain_writes.proofs.live.greatest_left.Goals.{then-not-is_freed_by, else-not-is_freed_by}
use Rattle.uncertain_writes.proofs.live.greatest_left.Goals as goal

pub loop-kept-init : goal.loop-kept-init
loop-kept-init c = mw-zero c.args.rating.now

pub loop-kept-preserved : goal.loop-kept-preserved
loop-kept-preserved c =
    let rating = c.args.rating.now in
    let its = c.args.writes.now in
    let i = c.loop-kept.kept-index in
    let item = c.kept-item.result in
    let within : i < length its = omega (arith, c.loop-kept-test.true) in
    let test = frees c.args.rules.now (Some c.args.read.now) c.args.raw in
    let is_next = λ (n : ℕ). mw rating n ≡ fold max 0 (map (λ (write : writes.Write). mw rating write.raw) (without test (take (i + 1) its))) in
    elim c.if-not-is_freed_by.branch [
      | then-not-is_freed_by w ↦ subst is_next (sym w.most-is)
          (greatest_left_more rating test its i c.loop-kept.most item within c.kept-item.is c.loop-kept.invariant w.raw.result w.max-most.result w.raw.ensures (omega (arith, w.max-most.ensures)) (sym c.is_freed_by.ensures ∙ w.if-not-is_freed_by.true))
      | else-not-is_freed_by w ↦ subst is_next (sym w.most-is)
          (greatest_left_same rating test its i c.loop-kept.most item within c.kept-item.is c.loop-kept.invariant (sym c.is_freed_by.ensures ∙ w.if-not-is_freed_by.false))
    ]
