use Rattle.std.proofs.Common.{◌≡◌, Bool, true, false, refl, sym, ap, ◌∙◌}
use Rattle.std.specs.List.{list_any}
use Rattle.std.proofs.lemmas.List.Folds.{list_any-append}
use Rattle.plant_book.specs.declared.book.Entry.{Entry}
use Rattle.plant_book.specs.Answer as rule
use Rattle.plant_book.proofs.replies.is_stopped.Goals as goal

stops : Entry → Bool
stops entry = rule.stops entry.call

pub returns-else-stop_before : goal.returns-else-stop_before
unfolding rule.is_stopped stops
returns-else-stop_before c before is =
    let none : list_any stops before ≡ false = sym (c.stop_before.ensures before is) ∙ c.if-stop_before.false in
    let own = c.has_stop.ensures ∙ ap (list_any stops) c.entries.ensures in
    own ∙ sym (list_any-append stops before c.args.book.now.entries ∙ rw none refl)

pub returns-then-stop_before : goal.returns-then-stop_before
unfolding rule.is_stopped stops
returns-then-stop_before c before is =
    let some : list_any stops before ≡ true = sym (c.stop_before.ensures before is) ∙ c.if-stop_before.true in
    c.if-stop_before.true ∙ sym (list_any-append stops before c.args.book.now.entries ∙ rw some refl)
