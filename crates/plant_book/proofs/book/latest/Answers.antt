use Rattle.std.proofs.Common.{Option, sym, ap, ◌∙◌}
use Rattle.std.specs.Option.{option_copied, option_map_or}
use Rattle.plant_book.specs.declared.book.Entry.{Entry}
use Rattle.plant_book.specs.Calls.{moment}
use Rattle.plant_book.proofs.Steps.{latest-last}
use Rattle.plant_book.proofs.book.latest.Goals as goal

pub returns-in-Some : goal.returns-in-Some
returns-in-Some c =
    c.at.ensures
    ∙ sym (latest-last c.args.start c.args.entries.now
    ∙ ap (λ (last : Option Entry). option_map_or (λ entry. moment entry.call) last c.args.start) (sym c.last.ensures.value ∙ ap option_copied c.in-Some.is))

pub returns-in-None : goal.returns-in-None
returns-in-None c =
    sym (latest-last c.args.start c.args.entries.now
    ∙ ap (λ (last : Option Entry). option_map_or (λ entry. moment entry.call) last c.args.start) (sym c.last.ensures.value ∙ ap option_copied c.in-None.is))
