use Rattle.std.proofs.Common.{◌≡◌, ◌<◌, ◌≤◌, ◌*◌, ◌^◌, length, get_or, take, subst, ap, arith}
use Rattle.std.proofs.lemmas.List.Elements.{All-more, All-weaker}
use Rattle.std.proofs.lemmas.List.Sums.{sum_by_more}
use Rattle.plant_book.specs.declared.call.Write as writes
use Rattle.plant_ledger.specs.Account.{Account, AreFrom, reserved_of}
use Rattle.plant_ledger.proofs.Running.{older_from}
use Rattle.plant_ledger.proofs.sums.gather.Goals as goal

pub loop-account-preserved : goal.loop-account-preserved
loop-account-preserved c =
    let xs = c.args.accounts.now in
    let i = c.loop-account.account-index in
    let item = c.account-item.result in
    let old = c.loop-account.invariant in
    let new = c.min-oldest.result in
    let within : i < length xs = omega (arith, c.loop-account-test.true) in
    let is : item ≡ get_or xs i item = c.account-item.is in
    record {
      summed = omega (arith, old.summed, c.reserved-total.ensures.watts, sum_by_more reserved_of xs i item within, ap (λ (a : Account). reserved_of a) is);
      below = omega (arith, old.below, c.reserved-total.ensures.below);
      each = All-more (λ (a : Account). reserved_of a ≤ 65535 * 10 ^ 12) xs i item within old.each (omega (arith, c.reserved-total.ensures.watts, c.reserved-total.ensures.below, ap (λ (a : Account). reserved_of a) is));
      oldest = All-more (λ (a : Account). AreFrom new a.live) xs i item within (older_from c.loop-account.oldest new (take i xs) (omega (arith, c.min-oldest.ensures)) old.oldest)
          (subst (λ (a : Account). AreFrom new a.live) is (All-weaker (λ (w : writes.Write). c.oldest.result ≤ w.at) (λ (w : writes.Write). new ≤ w.at) (λ w at. omega (arith, c.min-oldest.ensures, at)) item.live c.oldest.ensures));
    }
