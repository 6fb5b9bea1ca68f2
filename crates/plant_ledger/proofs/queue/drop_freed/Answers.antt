use Rattle.std.proofs.Common.{◌≡◌, sym, ap, subst, List, Option}
use Rattle.std.specs.Prelude.{filter}
use Rattle.plant_book.specs.declared.call.Read as reads
use Rattle.plant_book.specs.declared.call.Write as writes
use Rattle.plant_book.specs.Writes.{frees}
use Rattle.plant_ledger.specs.Queue.{without_writes}
use Rattle.plant_ledger.proofs.Standing.{none_freed}
use Rattle.plant_ledger.proofs.queue.drop_freed.Goals as goal

pub returns-in_default : goal.returns-in_default
returns-in_default c =
    let left = λ (ws : List writes.Write). without_writes c.args.inverter ws c.args.expiries.now in
    let its = c.args.account.now.live in
    subst (λ (pending : Option reads.Read). c.args.expiries.now ≡ without_writes c.args.inverter (filter (frees c.args.rules.now pending c.args.raw) its) c.args.expiries.now)
    c.in_default.ensures (sym (ap left (none_freed c.args.rules.now c.args.raw its)))
