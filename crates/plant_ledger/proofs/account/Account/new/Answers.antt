use Rattle.std.proofs.Common.{◌≤◌, List, sym, subst, ap, ◌∙◌}
use Rattle.std.proofs.lemmas.List.Elements.{All-nil}
use Rattle.limiter_num.specs.Rating.{mw}
use Rattle.plant_book.specs.declared.call.Write as writes
use Rattle.plant_ledger.specs.Account.{AreFrom, most_of}
use Rattle.plant_ledger.proofs.Running.{most_of-none}
use Rattle.plant_ledger.proofs.account.Account.new.Goals as goal

pub invariant_of-result : goal.invariant_of-result
invariant_of-result c =
    let unit = c.args.unit.now in
    record {
      floor = c.mw-floor.ensures.watts;
      low = c.mw-floor.ensures.below;
      top = c.full-full.ensures;
      most = c.mw-rated.ensures.watts ∙ ap (mw unit.rating) c.full-full.ensures;
      reserved = c.mw-floor.ensures.watts ∙ sym (most_of-none unit) ∙ ap (most_of unit) (sym c.new.ensures);
      below = c.mw-floor.ensures.below;
      step = c.step_of.ensures;
      oldest = subst (λ (its : List writes.Write). AreFrom 18446744073709551615 its) (sym c.new.ensures) (All-nil (λ (w : writes.Write). 18446744073709551615 ≤ w.at));
    }
