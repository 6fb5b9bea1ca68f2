use Rattle.std.proofs.Common.{sym, ◌∙◌, inl, inr}
use Rattle.std.proofs.lemmas.Bool.{false≢true}
use Rattle.busbars.proofs.Nesting.{crosses_from, crosses_back, ends_within_from}
use Rattle.busbars.proofs.bus.Bus.crosses.Goals as goal

pub returns-then-ends_within : goal.returns-then-ends_within
returns-then-ends_within c =
    (λ is. crosses_from c.args.self.now c.args.other.now (c.ends_within.ensures.0 is), λ crosses. c.if-ends_within.true)

pub returns-else-ends_within : goal.returns-else-ends_within
returns-else-ends_within c =
    let one = c.args.self.now in
    let other = c.args.other.now in (
      λ is. crosses_back other one (crosses_from other one (c.ends_within-else-ends_within.ensures.0 is)),
      λ crosses.
          elim (ends_within_from one other crosses) [
            | inl ends ↦ absurd (false≢true (sym c.if-ends_within.false ∙ c.ends_within.ensures.1 ends))
            | inr ends ↦ c.ends_within-else-ends_within.ensures.1 ends
          ],
    )
