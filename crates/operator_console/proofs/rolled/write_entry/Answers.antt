use Rattle.std.proofs.Common.{◌≡◌, ◌∙◌, List, ℕ, ◌++◌, ap}
use Rattle.script_text.specs.Text as texts
use Rattle.operator_console.proofs.Texts.{front_is}
use Rattle.operator_console.proofs.rolled.write_entry.Goals as goal

pub returns-in-Ok-clause-front : goal.returns-in-Ok-clause-front
returns-in-Ok-clause-front g c =
    let same : c.deref.result.now ≡ texts.entry_text c.args.entry.now = c.deref.ensures.value ∙ c.in-Ok.ensures.text ∙ ap (λ (t : List ℕ). t ++ texts.entry_text c.args.entry.now) c.clear.ensures.items in
    front_is _ _ _ _ _ same c.write.ensures.front
