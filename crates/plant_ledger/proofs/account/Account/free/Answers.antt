use Rattle.std.proofs.Common.{Option, refl, sym, ap, ◌∙◌, true, false, None}
use Rattle.plant_book.specs.declared.call.Read as reads
use Rattle.plant_book.specs.declared.call.Write as writes
use Rattle.plant_book.specs.Writes.{frees}
use Rattle.uncertain_writes.specs.Live.{without}
use Rattle.uncertain_writes.proofs.Lists.{filter_all}
use Rattle.plant_ledger.specs.Account.{Account}
use Rattle.plant_ledger.proofs.account.Account.free.Goals as goal
use Rattle.plant_ledger.proofs.account.Account.free.Goals.{in-Some, in_default}

abbrev ended : Account → Account
ended account = record account { pending = None; strange = false }

pub returns : goal.returns
returns c =
    let old = c.args.self.now in
    let freed : Option reads.Read → Account = λ pending. record old { pending = None; strange = false; live = without (frees c.args.rules.now pending c.args.raw) old.live } in
    let pending = ap (λ (a : Account). a.pending) c.self.view_is in
    elim c.match-self.branch [
      | in-Some w ↦ ap ended (c.self-2.view_is ∙ w.self-is ∙ w.settle.ensures) ∙ ap freed (sym w.in-Some.is ∙ pending)
      | in_default w ↦
          ap ended (c.self-2.view_is ∙ w.self-is)
          ∙ ap (λ (its : Option reads.Read). record old { pending = None; strange = false }) pending
          ∙ sym (ap (λ (its : _). record old { pending = None; strange = false; live = its }) (filter_all (λ (write : writes.Write). true) (λ write. refl) old.live))
          ∙ ap freed (sym w.in_default.is ∙ pending)
    ]
