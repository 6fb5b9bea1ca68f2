use Rattle.std.proofs.Common.{rules, sym, ◌∙◌}
use Rattle.std.proofs.lemmas.List.{drop-drop}
use Rattle.uncertain_writes.proofs.places.Places.drop_first.Goals as goal

pub returns : goal.returns
returns c =
    sym (drop-drop 1 c.self.inside.gone c.self.inside.writes.items) ∙ search rules
