use Rattle.std.proofs.Common.{◌≡◌, ℕ, ◌≤◌, length, Some, None, ap, subst, ◌∙◌, arith}
use Rattle.plant_book.specs.Part.{PartRecord}
use Rattle.plant_desk.specs.Rule.{Slot, IsOver}
use Rattle.plant_desk.specs.Passes.{DeskRecord}
use Rattle.plant_desk.proofs.Ends.{is_over}
use Rattle.plant_desk.proofs.closing.take_out.Goals as goal

never : {slot : Slot} {plant : PartRecord} → slot ≡ Some plant → slot ≡ None → ⊥
never some none = cc

pub unreachable-requires : goal.unreachable-requires
unreachable-requires c =
    let passes = c.desk.invariant.passes ∙ ap (λ (d : DeskRecord). d.passes) c.desk.view_is in
    let all : c.desk.inside.boards.shared.key.passes ≤ length c.args.place.me.0.hands = omega (arith, passes, c.requires.all) in
    let over = is_over c.desk.inside.boards.shared.key.plant.value c.desk.inside.boards.shared.key.passes _ _ _ _ c.take-slot.result c.requires.free all c.close_with-closed.ensures.values.2 c.take-slot.ensures.value in
    never over.plant c.in-None.is

pub returns : goal.returns
returns c =
    let passes = c.desk.invariant.passes ∙ ap (λ (d : DeskRecord). d.passes) c.desk.view_is in
    let book = ap (λ (d : DeskRecord). d.book) c.desk.view_is in
    let all : c.desk.inside.boards.shared.key.passes ≤ length c.args.place.me.0.hands = omega (arith, passes, c.requires.all) in
    let over = is_over c.desk.inside.boards.shared.key.plant.value c.desk.inside.boards.shared.key.passes _ _ _ _ c.take-slot.result c.requires.free all c.close_with-closed.ensures.values.2 c.take-slot.ensures.value in
    let hands = c.args.place.me.0.hands in
    subst (λ (slot : Slot). IsOver c.args.desk.book c.args.desk.passes hands slot) c.in-Some.is
    (subst (λ (b : PartRecord). IsOver b c.args.desk.passes hands c.take-slot.result) book
    (subst (λ (n : ℕ). IsOver c.desk.inside.boards.shared.key.plant.value n hands c.take-slot.result) passes over))
