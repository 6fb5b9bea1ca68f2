use Rattle.std.proofs.Common.{sym, ap, ◌∙◌, arith}
use Rattle.plant_desk.specs.Rule.{Sat}
use Rattle.plant_desk.specs.Passes.{DeskRecord}
use Rattle.plant_desk.proofs.Ends.{splits}
use Rattle.plant_desk.proofs.opening.part.Goals as goal

pub split_seat-place-requires : goal.split_seat-place-requires
split_seat-place-requires c =
    let words = c.desk.invariant.board.words in (
      c.requires.desk ∙ sym (ap (λ (d : DeskRecord). d.name) c.desk.view_is),
      omega arith,
      splits _ _ _ _ (ap (λ (m : Sat). m.0.holds) c.requires.first.1),
    )
