use Rattle.std.proofs.Common.{◌≡◌, ℕ, List, None, sym, subst, ◌∙◌}
use Rattle.std.proofs.lemmas.Bool.{false≢true}
use Rattle.toml.specs.Parse.{parse_document}
use Rattle.site_config.specs.SiteFile.{no_text}
use Rattle.site_config.proofs.site_file.read_table.Goals as goal

pub returns-in-Err-2 : goal.returns-in-Err-2
returns-in-Err-2 c =
    let none = c.in-Err.ensures.refused (λ memory. false≢true (sym c.if-is_memory.false ∙ c.is_memory.ensures.1 memory)) in
    no_text (λ utf8. subst (λ (b : List ℕ). parse_document b ≡ None) c.in-Ok.ensures.cases.0 none)

pub returns-in_default : goal.returns-in_default
returns-in_default c = no_text (λ utf8. absurd (c.in_default.ensures.cases.0 utf8))
