use Rattle.std.proofs.Common.{◌≡◌, ◌∷◌, ◌++◌, [], List, sym, subst, ap, ◌∙◌, arith}
use Rattle.std.proofs.lemmas.Grind.{common_steps}
use Rattle.plant_book.specs.declared.call.Write as writes
use Rattle.limiter_num.specs.Rating.{mw}
use Rattle.plant_ledger.specs.Account.{Account, AreFrom, most_of}
use Rattle.plant_ledger.proofs.Running.{most_of-push, from_push}
use Rattle.plant_ledger.proofs.account.Account.grant.Goals as goal

pub invariant_of-self : goal.invariant_of-self
invariant_of-self c =
    let unit = c.self.inside.unit in
    let its = c.self.inside.live in
    let write = c.in-Granted.write in
    let old = c.self.invariant in
    let oldest = c.min-self-inside.result in
    let limit = c.limit-limit.ensures.watts ∙ ap (λ (a : Account). mw a.unit.rating write.raw) (sym c.self.view_is) in
    let live : c.add-added.new.self ≡ its ++ write ∷ [] = grind (arith, common_steps) in
    record {
      floor = old.floor;
      low = old.low;
      top = old.top;
      most = old.most;
      reserved = c.max-self-inside.ensures ∙ omega (arith, old.reserved, limit, most_of-push unit its write, ap (most_of unit) live);
      below = omega (arith, old.below, c.limit-limit.ensures.below, c.max-self-inside.ensures);
      step = old.step;
      oldest = subst (λ (all : List writes.Write). AreFrom oldest all) (sym live) (from_push c.self.inside.oldest oldest its write (omega (arith, c.min-self-inside.ensures)) (omega (arith, c.min-self-inside.ensures)) old.oldest);
    }
