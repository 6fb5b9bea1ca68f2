use Rattle.std.proofs.Common.{◌≡◌, None, ◌∙◌, ap, sym}
use Rattle.model_discovery.specs.Chain.{model_fault}
use Rattle.model_discovery.proofs.Facts.{header_within}
use Rattle.model_discovery.proofs.Steps.{sound_more}
use Rattle.model_discovery.proofs.walk.after_header.Goals as goal

pub returns-in-None-model_fault-clause-keeps : goal.returns-in-None-model_fault-clause-keeps
returns-in-None-model_fault-clause-keeps c =
    let models = c.args.models.now.items in
    let fine : model_fault models c.args.model ≡ None =
    ap (λ xs. model_fault xs c.args.model) (sym c.deref-2.ensures.0) ∙ sym c.model_fault.ensures ∙ c.in-None-model_fault.is in
    record {
      fits = header_within models c.args.model fine;
      sound = rw c.push.ensures.items (sound_more models c.args.model c.requires.sound fine);
    }
