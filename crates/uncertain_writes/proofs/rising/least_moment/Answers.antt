use Rattle.std.proofs.Common.{◌≡◌, take, get_or, sym, ap, subst, ◌∙◌, arith}
use Rattle.std.proofs.lemmas.List.{take_all, take_more}
use Rattle.plant_book.specs.declared.call.Write as writes
use Rattle.uncertain_writes.specs.Live.{IsOldest}
use Rattle.uncertain_writes.proofs.Order.{oldest-push}
use Rattle.uncertain_writes.proofs.rising.least_moment.Goals as goal

pub loop-write-preserved : goal.loop-write-preserved
loop-write-preserved c =
    let xs = c.args.writes.now in
    let i = c.loop-write.write-index in
    let item = c.write-item.result in
    let at : (get_or xs i item).at ≡ c.at.result = ap (λ (write : writes.Write). write.at) (sym c.write-item.is) ∙ sym c.at.ensures in
    rw (take_more xs i item (omega arith)) (oldest-push (take i xs) (get_or xs i item) c.loop-write.oldest c.min-oldest.result (omega (arith, at)) (omega (arith, at, c.min-oldest.ensures)) c.loop-write.invariant)

pub returns : goal.returns
returns c =
    let xs = c.args.writes.now in
    subst (λ its. IsOldest its c.loop-write.oldest) (take_all c.loop-write.write-index xs (omega arith)) c.loop-write.invariant
