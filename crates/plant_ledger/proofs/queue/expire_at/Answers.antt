use Rattle.std.proofs.Common.{◌+◌, ◌-◌, ◌<◌, ◌≤◌, length, get_or, not, sym, subst, ap, arith}
use Rattle.std.proofs.lemmas.List.Elements.{All-filter}
use Rattle.plant_book.specs.declared.call.Write as writes
use Rattle.uncertain_writes.specs.Live.{is_past}
use Rattle.plant_ledger.specs.Account.{Account, AreFrom, reserved_of}
use Rattle.plant_ledger.proofs.Running.{total_low, sums_next}
use Rattle.plant_ledger.proofs.queue.expire_at.Goals as goal

pub overflow_add-sums : goal.overflow_add-sums
overflow_add-sums c = omega (arith, c.reserved.ensures.below, c.requires.sums.total, total_low c.args.accounts.now c.requires.few c.requires.sums.each)

pub returns-clause-sums : goal.returns-clause-sums
returns-clause-sums c =
    let accounts = c.args.accounts.now in
    let sums = c.args.sums.now in
    let old = c.index-accounts-place.result in
    let new = c.expire.new.self in
    let within : c.args.place < length accounts = omega (arith, c.if-place-accounts.false) in
    let from : AreFrom sums.oldest new.live = subst (λ (account : Account). AreFrom sums.oldest account.live) (sym c.expire.ensures)
    (All-filter (λ (write : writes.Write). not (is_past c.args.rules.now c.args.now write)) (λ (write : writes.Write). sums.oldest ≤ write.at) (get_or accounts c.args.place old).live (c.requires.sums.oldest c.args.place old within)) in
    sums_next accounts sums c.requires.sums c.args.place within new old
    (record { total = sums.total - c.reserved-reserved.result + c.reserved.result; oldest = sums.oldest; level = sums.level; fall = sums.fall; set = sums.set })
    (omega (arith, c.reserved.ensures.watts, c.reserved.ensures.below)) from (omega arith)
    (omega (arith, c.reserved.ensures.watts, c.reserved-reserved.ensures.watts, ap (λ (account : Account). reserved_of account) c.index-accounts-place.is))
