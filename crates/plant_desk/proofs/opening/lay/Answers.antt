use Rattle.std.proofs.Common.{◌≡◌, ℕ, List, [], ◌∷◌, length, Some, sym, subst, arith, rules}
use Rattle.std.proofs.lemmas.Grind.{common_steps}
use Rattle.atomic_table.specs.Table.{opening}
use Rattle.plant_book.specs.Part.{PartRecord}
use Rattle.plant_desk.specs.Hands.{first_view}
use Rattle.plant_desk.specs.Rule.{Slot, IsDesk}
use Rattle.plant_desk.proofs.Ends.{starts}
use Rattle.plant_desk.proofs.opening.lay.Goals as goal

pub new-requires : goal.new-requires
new-requires c =
    let ws : List ℕ = c.from-calls.result ∷ 0 ∷ 0 ∷ [] in
    let items : c.push_reserved.new.self.items ≡ Some c.args.plant ∷ [] = first_of (search rules, grind (arith, common_steps)) in
    let words : ws ≡ length c.args.plant.entries ∷ 0 ∷ 0 ∷ [] = first_of (search rules, grind (arith, common_steps)) in
    let book : c.of.result.value ≡ c.args.plant = search rules in
    subst (λ (b : PartRecord). IsDesk b c.args.passes (opening ws c.push_reserved.new.self.items (first_view b c.args.passes))) (sym book)
    (subst (λ (xs : List Slot). IsDesk c.args.plant c.args.passes (opening ws xs (first_view c.args.plant c.args.passes))) (sym items)
    (starts c.args.plant c.args.passes c.calls.ensures.kept c.requires ws words))
