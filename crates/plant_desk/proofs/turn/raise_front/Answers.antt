use Rattle.std.proofs.Common.{◌+◌, ℕ, Some, arith, ap, sym, ◌∙◌}
use Rattle.plant_book.specs.Part.{PartRecord}
use Rattle.plant_desk.specs.Rule.{holding, told}
use Rattle.plant_desk.specs.declared.deed.Deed.TheVariants.{Entered}
use Rattle.std.specs.Prelude.{[], ◌∷◌}
use Rattle.plant_desk.proofs.Kept.{raises}
use Rattle.plant_desk.proofs.Lives.{front-entered}
use Rattle.plant_desk.proofs.turn.raise_front.Goals as goal

pub overflow_add-front : goal.overflow_add-front
overflow_add-front c =
    let holds = c.requires.holds in
    let one = holds.0 in
    let more = holds.3 in
    let calls = more.answered.book.calls in
    omega (arith, c.front_now-front.ensures.front one (Some holds.1) holds.2, calls, front-entered one.plant one.seen one.number more.entry)

pub store-requires : goal.store-requires
store-requires c =
    let board = c.requires.board in
    let words = board.words in
    let holds = c.requires.holds in
    let one = holds.0 in
    let more = holds.3 in
    let same = c.front_now-front.ensures.same in (
      same.0 ∙ c.requires.place,
      omega arith,
      raises _ _ _ _ _ _ one more.entry (same.1 ∙ (holds.2 ∙ ap (λ (p : PartRecord). holding one (Some p)) more.more))
          (ap (λ (n : ℕ). n + 1) (c.front_now-front.ensures.front one (Some holds.1) holds.2)) more.answered,
    )

pub returns-clause-raised : goal.returns-clause-raised
returns-clause-raised c = λ one plant more is.
    c.store.ensures.2 one more.entry (c.front_now-front.ensures.same.1 ∙ (is ∙ ap (λ (p : PartRecord). holding one (Some p)) more.more))
    ∙ ap (λ (p : PartRecord). holding (told one (Entered one.number more.entry ∷ [])) (Some p)) (sym more.more)
